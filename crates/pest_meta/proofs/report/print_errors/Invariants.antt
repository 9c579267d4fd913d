use Rattle.std.proofs.Common.{◌≡◌, ◌++◌, take, string_bytes}
use Rattle.std.specs.List.{flat_map}
use Rattle.base_language.specs.Pieces.PrintedError.{error_text}
use Rattle.pest_meta.specs.Reports.{empty_line}
use Rattle.pest_meta.proofs.report.print_errors.Given as goal

abbrev pub invariant-loop-error : goal.invariant-loop-error
invariant-loop-error l =
    string_bytes l.text ≡ string_bytes l.initial.text ++ flat_map (λ error. empty_line ++ error_text error) (take l.error-index l.others)

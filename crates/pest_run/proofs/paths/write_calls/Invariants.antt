use Rattle.std.proofs.Common.{◌≡◌, ◌++◌, length}
use Rattle.std.specs.Prelude.{string_bytes}
use Rattle.matcher_program.specs.ExpectedNames.{name_texts}
use Rattle.pest_run.specs.Paths.{calls_text}
use Rattle.pest_run.proofs.paths.write_calls.Given as goal

-- what is written, and the calls that are left, are all calls
abbrev pub invariant-loop-call : goal.invariant-loop-call
invariant-loop-call l =
    string_bytes l.lines ++ calls_text l.text (name_texts l.names) l.rest
    ≡ string_bytes l.initial.lines ++ calls_text l.text (name_texts l.names) l.calls

abbrev pub decreases-loop-call : goal.decreases-loop-call
decreases-loop-call l = length l.rest

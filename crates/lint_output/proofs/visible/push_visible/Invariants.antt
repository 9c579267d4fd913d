use Rattle.std.proofs.Common.{◌≡◌, ◌++◌, encode_utf8_all, string_bytes}
use Rattle.std.specs.List.{flat_map}
use Rattle.lint_output.specs.Visible.{shown}
use Rattle.lint_output.proofs.visible.push_visible.Given as goal

abbrev pub invariant-loop-character : goal.invariant-loop-character
invariant-loop-character l =
    string_bytes l.out ≡ string_bytes l.fn.out ++ encode_utf8_all (flat_map shown l.yielded)

use Rattle.std.proofs.Common.{◌≡◌, encode_utf8_all, string_bytes}
use Rattle.std.specs.List.{flat_map}
use Rattle.lint_output.specs.Annotations.{message_part}
use Rattle.lint_output.proofs.github.escape_message.Given as goal

abbrev pub invariant-loop-character : goal.invariant-loop-character
invariant-loop-character l = string_bytes l.escaped ≡ encode_utf8_all (flat_map message_part l.yielded)

use Rattle.std.proofs.Common.{◌≡◌, encode_utf8_all, string_bytes}
use Rattle.std.specs.List.{flat_map}
use Rattle.lint_output.specs.Annotations.{property_part}
use Rattle.lint_output.proofs.github.escape_property.Given as goal

abbrev pub invariant-loop-character : goal.invariant-loop-character
invariant-loop-character l = string_bytes l.escaped ≡ encode_utf8_all (flat_map property_part l.yielded)

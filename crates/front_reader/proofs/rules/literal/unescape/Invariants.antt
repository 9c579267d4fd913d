use Rattle.std.proofs.Common.{◌≡◌, ◌++◌, chars, length, string_bytes}
use denote.Text.{Utf8}
use denote.Shadow.{shadow}
use Rattle.std.specs.Str.{all_scalars}
use Rattle.front_reader.specs.Literal.{unescaped}
use Rattle.front_reader.proofs.rules.literal.unescape.Given as goal

abbrev pub invariant-loop-c : goal.invariant-loop-c
invariant-loop-c l = record {
  utf8 : shadow (Utf8 l.rest);
  reads : unescaped (chars l.text) ≡ chars (string_bytes l.read) ++ unescaped (chars l.rest);
  scalar : all_scalars (unescaped (chars l.text)) ≡ all_scalars (unescaped (chars l.rest));
}

abbrev pub decreases-loop-c : goal.decreases-loop-c
decreases-loop-c l = length l.rest

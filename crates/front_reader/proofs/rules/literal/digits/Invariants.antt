use Rattle.std.proofs.Common.{◌≡◌, ◌≤◌, ℕ, chars, length}
use denote.Text.{Utf8}
use denote.Shadow.{shadow}
use Rattle.front_reader.specs.Literal.{digits}
use Rattle.front_reader.specs.Views.{IsSameNumber}
use Rattle.front_reader.proofs.rules.literal.digits.Given as goal

abbrev pub invariant-loop-c : goal.invariant-loop-c
invariant-loop-c l = record {
  utf8 : shadow (Utf8 l.rest);
  within : length l.rest ≤ length l.text;
  reads : (n : ℕ) × IsSameNumber l.value n × (digits 0 (chars l.text) ≡ digits n (chars l.rest));
}

abbrev pub decreases-loop-c : goal.decreases-loop-c
decreases-loop-c l = length l.rest

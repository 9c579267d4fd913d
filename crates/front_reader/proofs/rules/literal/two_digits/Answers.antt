use Rattle.std.proofs.Common.{inl, refl}
use Rattle.front_reader.proofs.rules.literal.two_digits.Goals as goal

pub returns-clause-names : goal.returns-clause-names
returns-clause-names c = (_, c.append_digit-2.ensures _ (c.append_digit.ensures 0 (inl refl)), rw (c.in_ok-high.ensures.parts, c.in_ok-low.ensures.parts) refl)

use Rattle.std.proofs.Common.{refl, inl}
use Rattle.front_reader.proofs.rules.literal.escape.Goals as goal

pub returns-in-r-clause-names : goal.returns-in-r-clause-names
returns-in-r-clause-names c = (13, inl refl, rw (c.in_ok-c.ensures.parts, c.in-r.is) refl)

pub returns-in-n-clause-names : goal.returns-in-n-clause-names
returns-in-n-clause-names c = (10, inl refl, rw (c.in_ok-c.ensures.parts, c.in-n.is) refl)

pub returns-in-t-clause-names : goal.returns-in-t-clause-names
returns-in-t-clause-names c = (9, inl refl, rw (c.in_ok-c.ensures.parts, c.in-t.is) refl)

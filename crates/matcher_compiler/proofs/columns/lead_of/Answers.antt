use Rattle.std.proofs.Common.{inl, inr, refl}
use Rattle.matcher_compiler.proofs.columns.lead_of.Goals as goal

pub returns-in-Some : goal.returns-in-Some
returns-in-Some c = λ e. inr (c.in-Some.ensures e)

pub returns-in-None : goal.returns-in-None
returns-in-None c = λ e. inl refl

use Rattle.std.proofs.Common.{arith, inl, inr}
use Rattle.matcher_compiler.proofs.columns.is_noted_from.Goals as goal

pub returns-then-next-branch : goal.returns-then-next-branch
returns-then-next-branch c = λ e first_set s. c.is_noted.ensures e first_set tt

pub returns-else-next-branch : goal.returns-else-next-branch
returns-else-next-branch c = λ e first_set s. elim s [
  | inl z ↦ absurd (omega (arith, z, c.if-next-branch.false))
  | inr m ↦ c.is_noted-else-next-branch.ensures e first_set m
]

use Rattle.std.proofs.Common.{◌≡◌, ◌∙◌, inl, inr, sym, true}
use Rattle.matcher_machine.proofs.kinds.may_run.Goals as goal

pub returns-then-is_same : goal.returns-then-is_same
returns-then-is_same c = λ code (_ : true ≡ true). inl (sym (c.kind_at-own.ensures code) ∙ c.is_same.ensures c.if-is_same.true)

pub returns : goal.returns
returns c = λ code h. inr (sym (c.kind_at-own.ensures code) ∙ c.is_same-2.ensures h)

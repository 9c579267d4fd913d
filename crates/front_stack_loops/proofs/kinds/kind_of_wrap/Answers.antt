use Rattle.std.proofs.Common.{◌∙◌, ap, ap₂, sym, false}
use Rattle.front_stack_loops.specs.Kinds.{wrap_kind}
use Rattle.front_stack_loops.specs.declared.table.NodeKind.TheVariants as is
use Rattle.front_stack_loops.proofs.kinds.kind_of_wrap.Goals as goal

pub returns-in-RepMinMax : goal.returns-in-RepMinMax
returns-in-RepMinMax c =
    ap₂ (λ m n. is.Repeat c.args.body m n false) c.min.ensures c.saturating_sub.ensures ∙ ap (λ z. wrap_kind z c.args.body) (sym c.in-RepMinMax.is)

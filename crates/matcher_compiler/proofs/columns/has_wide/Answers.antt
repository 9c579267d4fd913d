use Rattle.std.proofs.Common.{Some, inl, subst, sym}
use Rattle.matcher_code.specs.Lists.{lists_of}
use Rattle.matcher_code.specs.Laid.{Skips}
use Rattle.matcher_compiler.proofs.columns.has_wide.Goals as goal

pub returns-then-is_wide : goal.returns-then-is_wide
returns-then-is_wide c = λ e f t b h k.
    inl (subst (λ z. Skips (lists_of c.args.code.now) (Some b) c.args.branch.first z) (sym (c.is_wide.ensures t b h k)) (c.in-Some.ensures e b h))

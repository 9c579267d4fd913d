use Rattle.std.proofs.Common.{◌∙◌, Some, arith, get_or, inr, subst, sym}
use Rattle.matcher_code.specs.Lists.{lists_of}
use Rattle.matcher_code.specs.Laid.{Moves}
use Rattle.matcher_compiler.proofs.Columned.{leads_by_table}
use Rattle.matcher_compiler.proofs.columns.has_labels.Goals as goal

pub returns-in-Some-labels_of-2 : goal.returns-in-Some-labels_of-2
returns-in-Some-labels_of-2 c = λ e f.
    let code = lists_of c.args.code.now in
    c.has_labels_over.ensures (λ b h k. inr (subst (λ n. Moves code (Some b) c.args.branch.second n) (sym (c.in-Some-labels_of-2.ensures.same b (omega (arith, k, c.requires))))
    (leads_by_table code c.in-Switch.table c.args.branch.second b (f ∙ c.in-Switch.is)))) e

use Rattle.std.proofs.Common.{◌≡◌, ◌∙◌, ap, sym, subst}
use Rattle.base_language.specs.Rewritings.Erased.{erased}
use Rattle.base_language.specs.Language.Expression.{Rule}
use Rattle.base_language.specs.Rewritings.Wrapping.{RestoresTo}
use Rattle.base_ast.specs.Optimized.{optimized_expression_of}
use Rattle.front_restorer.specs.Changing.{KeepsWrappers, restored_by}
use Rattle.front_restorer.specs.KnownChanges.{changes_stack}
use Rattle.front_restorer.proofs.Restoring.{restores, restored_keeps, restored_same}
use Rattle.front_restorer.proofs.restorer.restore_on_err.Goals as goal

pub returns-clause-restores : goal.returns-clause-restores
returns-clause-restores c = λ g h k.
    let x = c.args.rule.expr in
    let p = changes_stack c.in_ok-changes.changes in
    let body : optimized_expression_of c.in_ok-restore_summarized.field-0.expr ≡ restored_by p (optimized_expression_of x) = ap (λ (r : Rule). r.body) c.in_ok-restore_summarized.ensures.whole in
    subst (RestoresTo g (optimized_expression_of x)) (sym body) (restores p g (c.in_ok-changes.ensures g h) x k)

pub returns-clause-whole : goal.returns-clause-whole
returns-clause-whole c = record {
  changes = changes_stack c.in_ok-changes.changes;
  decides = λ g h. c.in_ok-changes.ensures g h;
  is_restored = ap (λ (r : Rule). r.body) c.in_ok-restore_summarized.ensures.whole;
}

pub returns-clause-erased : goal.returns-clause-erased
returns-clause-erased c =
    ap (λ (r : Rule). erased r.body) c.in_ok-restore_summarized.ensures.whole ∙ restored_same (changes_stack c.in_ok-changes.changes) (optimized_expression_of c.args.rule.expr)

pub returns-clause-wrappers : goal.returns-clause-wrappers
returns-clause-wrappers c =
    let x = c.args.rule.expr in
    let p = changes_stack c.in_ok-changes.changes in
    subst (λ (r : Rule). KeepsWrappers (optimized_expression_of x) r.body) (sym c.in_ok-restore_summarized.ensures.whole) (restored_keeps p (optimized_expression_of x))

use Rattle.std.proofs.Common.{◌∙◌, sym}
use Rattle.base_ast.specs.Optimized.{optimized_expression_of}
use Rattle.front_restorer.specs.KnownChanges.{changes_stack}
use Rattle.front_restorer.proofs.Deciding.{decided}
use Rattle.front_restorer.proofs.Said.{said}
use Rattle.front_restorer.proofs.restorer.child_modifies_state.Goals as goal

pub returns-clause-decides : goal.returns-clause-decides
returns-clause-decides c = λ g h.
    let d = decided g (changes_stack c.in_ok-changes.changes) (c.in_ok-changes.ensures g h) (optimized_expression_of c.args.expr.now) (said c.args.expr.now) in (
      (λ k. d.0 (sym c.in_ok-is_changed.ensures ∙ k)),
      (λ x. c.in_ok-is_changed.ensures ∙ d.1 x),
    )

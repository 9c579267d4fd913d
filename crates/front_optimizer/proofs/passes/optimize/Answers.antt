use Rattle.std.proofs.lemmas.Result.{IfOk-weaker}
use Rattle.base_ast.specs.Ast.{rules_of}
use Rattle.base_ast.specs.Optimized.{optimized_rules_of}
use Rattle.front_restorer.proofs.Safe.{agree}
use Rattle.front_optimizer.proofs.Composed.{answered_both, optimized}
use Rattle.front_optimizer.proofs.Wrapped.{have_no_wrappers}
use Rattle.front_optimizer.proofs.passes.optimize.Goals as goal

pub returns-clause-rules : goal.returns-clause-rules
returns-clause-rules c =
    let rules = rules_of c.args.rules.items in
    let listing = optimized_rules_of c.in_ok-listing.field-0.items in
    let each = (rw c.into_inner.ensures at c.in_ok-listing.ensures.rules) rules c.in_ok-bodies.ensures in
    answered_both c.restore_rules.result
    (λ a f s. optimized rules listing (optimized_rules_of a.items) each (f (have_no_wrappers rules each)) s) c.restore_rules.ensures.restores c.restore_rules.ensures.erased

pub returns-clause-agrees : goal.returns-clause-agrees
returns-clause-agrees c =
    let rules = rules_of c.args.rules.items in
    let listing = optimized_rules_of c.in_ok-listing.field-0.items in
    let each = (rw c.into_inner.ensures at c.in_ok-listing.ensures.rules) rules c.in_ok-bodies.ensures in
    IfOk-weaker c.restore_rules.result _ _ (λ a f w. agree listing (optimized_rules_of a.items) (f (have_no_wrappers rules each)) w) c.restore_rules.ensures.restores

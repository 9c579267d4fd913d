use Rattle.front_spanned.specs.Nodes.{rule_views}
use Rattle.lint_diagnostics.proofs.Forms.{optimized_as}
use Rattle.lint_diagnostics.proofs.comparer.optimize_copy.Goals as goal

pub returns-in-Ok : goal.returns-in-Ok
returns-in-Ok c = λ grammar s. optimized_as grammar (rule_views c.args.rules.now) c.in-Ok.optimized.items s (rw (c.into_inner.ensures, c.in_ok-copies.ensures) at c.in-Ok.ensures.rules)

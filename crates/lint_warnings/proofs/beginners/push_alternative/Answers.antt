use Rattle.std.proofs.Common.{refl, length}
use Rattle.front_spanned.specs.Nodes.{view}
use Rattle.front_spanned.specs.Walk.{waiting}
use Rattle.lint_warnings.proofs.Steps.{fewer, sides_fewer}
use Rattle.lint_warnings.proofs.beginners.push_alternative.Goals as goal

pub returns-in_ok-push_both-in-Choice : goal.returns-in_ok-push_both-in-Choice
returns-in_ok-push_both-in-Choice c =
    let e = c.in-Choice.ensures in
    sides_fewer e.0 (view c.args.node.now) _ _ _ c.in-Choice.left c.in-Choice.right e.1 refl c.in_ok-push_both-in-Choice.ensures

pub returns-in_ok-push_until-in_default : goal.returns-in_ok-push_until-in_default
returns-in_ok-push_until-in_default c = fewer (view c.args.node.now) (length (waiting c.args.stack.now.items))

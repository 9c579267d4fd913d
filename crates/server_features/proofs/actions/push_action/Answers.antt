use Rattle.std.proofs.Common.{Some, refl}
use Rattle.server_features.specs.Actions.{actions_by}
use Rattle.server_features.proofs.actions.push_action.Goals as goal

pub returns-in_ok-push_remedy : goal.returns-in_ok-push_remedy
returns-in_ok-push_remedy c =
    (actions_by c.args.context.now c.args.diagnostic.now (Some c.in-Some.remedy), (Some c.in-Some.remedy, rw c.in-Some.is at c.in_ok-remedy.ensures, refl), c.in_ok-push_remedy.ensures)

use Rattle.format_json.proofs.NoNodes.{none_alone, not_alone}
use Rattle.format_json.proofs.nodes.node_alone.Goals as goal

pub returns-in_default-clause-refused : goal.returns-in_default-clause-refused
returns-in_default-clause-refused c = not_alone _ (none_alone _ c.in_default.not-pos_pred c.in_default.not-neg_pred c.in_default.not-seq c.in_default.not-choice c.in_default.not-opt c.in_default.not-rep c.in_default.not-rep_once c.in_default.not-push c.in_default.not-restore_on_err)

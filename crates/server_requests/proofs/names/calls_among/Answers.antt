use Rattle.std.proofs.Common.{◌∙◌, ap, not}
use Rattle.std.proofs.lemmas.Result.{IfOk-weaker}
use Rattle.server_requests.specs.Calls.{is_call, is_outside}
use Rattle.server_requests.proofs.Starts.{filter_same}
use Rattle.server_requests.proofs.names.calls_among.Goals as goal

pub returns : goal.returns
returns c = IfOk-weaker c.extents_outside.result _ _ (λ found e. e ∙ filter_same (is_outside c.in_ok-starts.starts) (is_call c.args.definitions.now) c.args.extents.now (λ x. ap not (c.in_ok-starts.ensures x.start))) c.extents_outside.ensures

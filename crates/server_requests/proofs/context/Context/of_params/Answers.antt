use Rattle.std.proofs.Common.{sym}
use Rattle.serde_json.specs.View.{view}
use Rattle.server_requests.proofs.Contexts.{context_in}
use Rattle.server_requests.proofs.context.Context.of_params.Goals as goal

pub returns : goal.returns
returns c = context_in c.args.client c.args.documents.now (view c.args.params.now) c.in-Some.uri.now c.in-Some-get.document.now c.new.result (sym c.in-Some.ensures) (sym c.in-Some-get.ensures) c.new.ensures

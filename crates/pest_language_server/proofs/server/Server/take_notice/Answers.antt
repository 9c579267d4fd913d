use Rattle.std.proofs.Common.{sym}
use Rattle.serde_json.specs.View.{view}
use Rattle.pest_language_server.proofs.Announcing.{announces_at, keeps_at}
use Rattle.pest_language_server.proofs.server.Server.take_notice.Goals as goal

pub returns-in-Ok-clause-sent : goal.returns-in-Ok-clause-sent
returns-in-Ok-clause-sent c = announces_at c.args.notice c.in_ok-uri.uri.now _ _ (view c.args.params.now) c.in-Ok.body (sym c.in_ok-uri.ensures) c.in-Ok.ensures.sent

pub returns-in-Err-clause-documents : goal.returns-in-Err-clause-documents
returns-in-Err-clause-documents c = keeps_at c.args.notice c.in_ok-uri.uri.now (view c.args.params.now) _ _ (sym c.in_ok-uri.ensures) c.synchronize.ensures.documents

use Rattle.serde_json.specs.View.{view}
use Rattle.pest_language_server.proofs.Announcing.{takes_by}
use Rattle.pest_language_server.proofs.server.Server.handle_notification.Goals as goal

pub returns : goal.returns
returns c = takes_by _ _ c.args.method.now (view c.params_of-params.result.now) _ _ c.params_of-params.ensures (record {
  session = c.take_notification-body.ensures.session;
  exit = c.exit_for-exit.ensures;
  documents = c.take_notification-body.ensures.documents;
  sent = c.take_notification-body.ensures.sent;
})

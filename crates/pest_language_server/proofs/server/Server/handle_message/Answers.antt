use Rattle.std.proofs.Common.{None, refl}
use Rattle.std.proofs.lemmas.Result.{IfOk-weaker}
use Rattle.serde_json.specs.View.{view}
use Rattle.pest_language_server.specs.Replies.{IsRefusal}
use Rattle.pest_language_server.proofs.Handling.{handles_nothing, handles_notification, handles_request}
use Rattle.pest_language_server.proofs.server.Server.handle_message.Goals as goal

pub returns-in-Response : goal.returns-in-Response
returns-in-Response c = handles_nothing c.args.self.now c.args.self.now (view c.args.message.now) (record { body = None; exit = None }) c.in-Response.ensures.0 c.in-Response.ensures.1 (record { same = refl; exit = refl })

pub returns-in-Invalid : goal.returns-in-Invalid
returns-in-Invalid c = IfOk-weaker c.refusal.result IsRefusal _ (λ reply h. handles_nothing c.args.self.now c.args.self.now (view c.args.message.now) reply c.in-Invalid.ensures.0 c.in-Invalid.ensures.1 (record { same = refl; exit = h.exit })) c.refusal.ensures

pub returns-in-Notification : goal.returns-in-Notification
returns-in-Notification c = handles_notification _ _ (view c.args.message.now) _ _ c.in-Notification.ensures.0 c.in-Notification.ensures.1 c.handle_notification.ensures

pub returns-in-Request : goal.returns-in-Request
returns-in-Request c = IfOk-weaker c.handle_request.result _ _ (λ reply h. handles_request _ _ (view c.args.message.now) _ _ reply c.in-Request.ensures h) c.handle_request.ensures

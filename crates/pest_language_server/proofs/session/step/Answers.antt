use Rattle.std.proofs.Common.{refl}
use Rattle.pest_language_server.specs.Sessions.{ends, forgets}
use Rattle.pest_language_server.proofs.Serving.{step_by}
use Rattle.pest_language_server.proofs.session.step.Goals as goal

pub returns-then-matches : goal.returns-then-matches
returns-then-matches g c = ends _ _ _

pub returns-in_default-reply_to : goal.returns-in_default-reply_to
returns-in_default-reply_to g c = λ status s. forgets _ _ _ _ _ _ status c.in_ok-frame.ensures s

pub returns : goal.returns
returns g c =
    step_by _ _ _ _ _ _ c.in-Ok.reply c.in-Ok.reply.exit refl (record { frame = c.in_ok-frame.frame; read = c.in_ok-frame.ensures; replies = c.in-Ok.ensures; sent = c.in_ok-send.ensures })

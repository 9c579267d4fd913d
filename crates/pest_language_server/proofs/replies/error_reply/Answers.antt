use Rattle.pest_language_server.proofs.Answering.{one_message}
use Rattle.pest_language_server.proofs.replies.error_reply.Goals as goal

pub returns : goal.returns
returns c = one_message _ c.reply_of.result c.in_ok-body.body c.reply_of.ensures.body c.reply_of.ensures.exit c.in_ok-body.ensures

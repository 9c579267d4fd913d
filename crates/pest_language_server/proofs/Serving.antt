-- One frame of a session.
use Rattle.std.proofs.Common.{◌≡◌, ℕ, List, Option, None, Some, refl}
use Rattle.pest_language_server.specs.declared.replies.Reply.{Reply}
use Rattle.pest_language_server.specs.declared.server.Server.{Server}
use Rattle.pest_language_server.specs.Sessions.{Answers, IsStep, answers, exits}

-- the session ends with the status of a reply, or goes on
pub step_by : (old new : Server) (input rest output grown : Option (List ℕ)) (reply : Reply) (exit : Option ℕ) → reply.exit ≡ exit → Answers old new input rest output grown reply
    → IsStep old new input rest output grown exit
step_by old new input rest output grown reply None e a = λ status s. answers old new input rest output grown reply status a e s
step_by old new input rest output grown reply (Some status) e a = exits old new input rest output grown reply status a e

-- Messages, by their class.
use Rattle.std.proofs.Common.{◌≡◌, List, ℕ, Some, None}
use Rattle.server_protocol.specs.Messages.{notification_of, params_of, request_of}
use Rattle.pest_language_server.specs.Serving.{AnswersRequest, ChangesNothing, HandlesMessage, TakesNotification}
use Rattle.pest_language_server.specs.declared.replies.Reply.{Reply}
use Rattle.pest_language_server.specs.declared.server.Server.{Server}
use Rattle.serde_json.specs.Data.{Data}

-- no request and no notification
pub handles_nothing : (old new : Server) (d : Data) (r : Reply) → request_of d ≡ None → notification_of d ≡ None → ChangesNothing old new r → HandlesMessage old new d r
handles_nothing old new d r q n h = rw (q, n) h

-- a notification
pub handles_notification : (old new : Server) (d : Data) (m : List ℕ) (r : Reply) → request_of d ≡ None → notification_of d ≡ Some m → TakesNotification old new m (params_of d) r → HandlesMessage old new d r
handles_notification old new d m r q n h = rw (q, n) h

-- a request
pub handles_request : (old new : Server) (d id : Data) (m : List ℕ) (r : Reply) → request_of d ≡ Some (id, m) → AnswersRequest old new id m (params_of d) r → HandlesMessage old new d r
handles_request old new d id m r q h = rw q h

-- Sessions: the phases, and the replies to messages.
use Rattle.std.specs.Prelude.{◌≡◌, ◌⊎◌, ℕ, List, [], Option, Some, None, IfSome, MatchBool, MatchOption, bytes_eq, codes, string_bytes, if◌then◌else◌}
use Rattle.server_protocol.specs.Documents.{KeepsDocuments, open_documents}
use Rattle.server_protocol.specs.Messages.{notification_of, params_of, request_of}
use Rattle.server_protocol.specs.declared.client.Client.{Client}
use Rattle.server_protocol.specs.declared.documents.Documents.{Documents}
use Rattle.server_protocol.specs.declared.messages.Answer.{Answer}
use Rattle.server_protocol.specs.declared.messages.ErrorCode.{ErrorCode}
use Rattle.server_protocol.specs.declared.messages.ErrorCode.TheVariants.{InvalidRequest, ServerNotInitialized}
use Rattle.pest_language_server.specs.Notices.{Announces, changed_by, notice_in}
use Rattle.server_requests.specs.Answers.{IsResult}
use Rattle.server_requests.specs.Refusals.{IsNull}
use Rattle.pest_language_server.specs.Replies.{IsError, IsOneMessage, IsRefusal, IsResponse}
use Rattle.pest_language_server.specs.Requests.{AnswersOpen}
use Rattle.pest_language_server.specs.declared.server.Phase.{Phase}
use Rattle.pest_language_server.specs.declared.server.Phase.TheVariants.{New, Running, ShutDown}
use Rattle.pest_language_server.specs.declared.replies.Reply.{Reply}
use Rattle.pest_language_server.specs.declared.server.Server.{Server}
use Rattle.serde_json.specs.Data.{Data}
use Rattle.serde_json.specs.Read.{read}

-- how far a session has come
abbrev pub phase_of : Server → Phase
phase_of server = server.phase

-- neither the phase nor what is known of the client changes
abbrev pub SameSession : Server → Server → Type 0
SameSession old new = (phase_of new ≡ phase_of old) × (new.client ≡ old.client)

-- the phase after a request of a method
abbrev pub after_request : Phase → List ℕ → Phase
after_request New method = if bytes_eq method (codes "initialize") then Running else New
after_request Running method = if bytes_eq method (codes "shutdown") then ShutDown else Running
after_request ShutDown method = ShutDown

-- the error with which a request of a method is refused in a phase
abbrev pub refused_in : Phase → List ℕ → Option ErrorCode
refused_in New method = if bytes_eq method (codes "initialize") then None else Some ServerNotInitialized
refused_in Running method = if bytes_eq method (codes "shutdown") then None
    else (if bytes_eq method (codes "initialize") then Some InvalidRequest else None)
refused_in ShutDown method = Some InvalidRequest

-- a server at the start of a session
pub record IsNew (server : Server) : Type 0 where
  pub phase : phase_of server ≡ New
  pub documents : open_documents server.documents ≡ []

-- an answer to a request of a method that is not refused in a phase
abbrev pub AnswersAllowed : Phase → Client → Documents → List ℕ → Data → Answer → Type 0
AnswersAllowed New client documents method params a = IsResult a
AnswersAllowed Running client documents method params a = MatchBool (bytes_eq method (codes "shutdown"))
    (IsNull a) (AnswersOpen client documents method params a)
AnswersAllowed ShutDown client documents method params a = ⊥

-- an answer to a request of a method in a phase: the error with which it is refused, if it is
abbrev pub AnswersIn : Phase → Client → Documents → List ℕ → Data → Answer → Type 0
AnswersIn phase client documents method params a = MatchOption (refused_in phase method)
    (AnswersAllowed phase client documents method params a) (λ code. IsError code a)

-- an answer of a server
abbrev pub AnswersAsked : Server → List ℕ → Data → Answer → Type 0
AnswersAsked server method params a =
    AnswersIn (phase_of server) server.client server.documents method params a

-- the status of a process that ends at `exit`
abbrev pub status_in : Phase → ℕ
status_in New = 1
status_in Running = 1
status_in ShutDown = 0

-- the status with which the process is to end at a notification of a method: at `exit`, and at no other
abbrev pub exit_at : Phase → List ℕ → Option ℕ
exit_at phase method = if bytes_eq method (codes "exit") then Some (status_in phase) else None

-- a request is answered in a message with its id, and changes no document
pub record AnswersRequest (old new : Server) (id : Data) (method : List ℕ) (params : Data) (reply : Reply)
    : Type 0 where
  pub phase : phase_of new ≡ after_request (phase_of old) method
  pub documents : new.documents ≡ old.documents
  pub message : IsOneMessage (IsResponse (AnswersAsked old method params) id) reply

-- a notification is taken: to documents it does no more than its method says, and a message that it gives
-- rise to says what became of them
pub record TakesNotification (old new : Server) (method : List ℕ) (params : Data) (reply : Reply)
    : Type 0 where
  pub session : SameSession old new
  pub exit : reply.exit ≡ exit_at (phase_of old) method
  pub documents : KeepsDocuments (changed_by (notice_in (phase_of old) method) params)
      old.documents new.documents
  pub sent : IfSome reply.body (λ body.
      Announces (notice_in (phase_of old) method) old new params (string_bytes body))

-- a message is refused or ignored
pub record ChangesNothing (old new : Server) (reply : Reply) : Type 0 where
  pub same : new ≡ old
  pub exit : reply.exit ≡ None

-- a message is answered as a request, taken as a notification, or changes nothing
abbrev pub HandlesMessage : Server → Server → Data → Reply → Type 0
HandlesMessage old new message reply = MatchOption (request_of message)
    (MatchOption (notification_of message) (ChangesNothing old new reply)
    (λ method. TakesNotification old new method (params_of message) reply))
    (λ request. AnswersRequest old new request.0 request.1 (params_of message) reply)

-- a body that is no JSON, or for which there is no memory, is refused
pub record RefusesBody (old new : Server) (reply : Reply) : Type 0 where
  pub same : new ≡ old
  pub message : IsRefusal reply

-- a body that reads as JSON is handled as that
abbrev pub RepliesTo : Server → Server → List ℕ → Reply → Type 0
RepliesTo old new body reply = ((message : Data) × (read body ≡ Some message)
    × HandlesMessage old new message reply) ⊎ RefusesBody old new reply

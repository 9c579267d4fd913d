-- Replies.
use Rattle.std.specs.Prelude.{◌≡◌, ◌⊎◌, ℕ, List, None, IsSomeAnd, codes, string_bytes}
use Rattle.server_protocol.specs.Messages.{IsMessage, error_data, response_data}
use Rattle.server_protocol.specs.declared.messages.Answer.{Answer}
use Rattle.server_protocol.specs.declared.messages.Answer.TheVariants as answer
use Rattle.server_protocol.specs.declared.messages.ErrorCode.{ErrorCode}
use Rattle.server_protocol.specs.declared.messages.ErrorCode.TheVariants.{InternalError}
use Rattle.pest_language_server.specs.declared.replies.Reply.{Reply}
use Rattle.serde_json.specs.Data.{Data, null}

-- a reply of one message, of which this is so, after which the process goes on
pub record IsOneMessage (P : List ℕ → Type 0) (reply : Reply) : Type 0 where
  pub body : IsSomeAnd reply.body (λ body. P (string_bytes body))
  pub exit : reply.exit ≡ None

-- an error without an id
abbrev pub IsErrorAlone : List ℕ → Type 0
IsErrorAlone body = (code : ErrorCode) × (reason : List ℕ) × IsMessage (error_data null code reason) body

abbrev pub IsRefusal : Reply → Type 0
IsRefusal reply = IsOneMessage IsErrorAlone reply

-- an answer is this error
abbrev pub IsError : ErrorCode → Answer → Type 0
IsError code (answer.Result value) = ⊥
IsError code (answer.Error other reason) = other ≡ code

-- the error that there is no memory for the answer to the request of an id
abbrev pub IsOutOfMemory : Data → List ℕ → Type 0
IsOutOfMemory id body = IsMessage (error_data id InternalError (codes "out of memory")) body

-- the response to the request of an id, with an answer of which this is so, or the error that there is no
-- memory for it
abbrev pub IsResponse : (Answer → Type 0) → Data → List ℕ → Type 0
IsResponse P id body = ((answer : Answer) × P answer × IsMessage (response_data id answer) body)
    ⊎ IsOutOfMemory id body

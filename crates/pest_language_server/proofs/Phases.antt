-- Answers in the phases of a session.
use Rattle.std.proofs.Common.{◌≡◌, List, ℕ, true, false, Result, Ok, Err, IfOk, bytes_eq, codes, subst}
use Rattle.std.specs.declared.alloc.AllocError.{AllocError}
use Rattle.server_protocol.specs.declared.client.Client.{Client}
use Rattle.server_protocol.specs.declared.documents.Documents.{Documents}
use Rattle.server_protocol.specs.declared.messages.Answer.{Answer}
use Rattle.server_protocol.specs.declared.messages.Answer.TheVariants as answer
use Rattle.server_requests.specs.Answers.{IsResult}
use Rattle.pest_language_server.specs.Requests.{AnswersOpen}
use Rattle.pest_language_server.specs.Serving.{AnswersAsked, AnswersIn}
use Rattle.pest_language_server.specs.declared.server.Phase.TheVariants.{New, Running}
use Rattle.pest_language_server.specs.declared.server.Server.{Server}
use Rattle.serde_json.specs.Data.{Data, null}
use Rattle.serde_json.specs.View.{view}
use Rattle.serde_json.specs.declared.value.Value.{Value}

-- an answer to `initialize` is a result
pub answers_first : (client : Client) (documents : Documents) (m : List ℕ) (params : Data) (r : Result Answer AllocError) → bytes_eq m (codes "initialize") ≡ true → IfOk r IsResult → IfOk r (AnswersIn New client documents m params)
answers_first client documents m params (Ok a) e h = rw e h
answers_first client documents m params (Err x) e h = tt

-- null answers `shutdown`
pub answers_shutdown : (client : Client) (documents : Documents) (m : List ℕ) (params : Data) (v : Value) → bytes_eq m (codes "shutdown") ≡ true → view v ≡ null → AnswersIn Running client documents m params (answer.Result v)
answers_shutdown client documents m params v e h = rw e h

-- an answer to a request after that
pub answers_running : (client : Client) (documents : Documents) (m : List ℕ) (params : Data) (r : Result Answer AllocError) → bytes_eq m (codes "shutdown") ≡ false → bytes_eq m (codes "initialize") ≡ false → IfOk r (AnswersOpen client documents m params) → IfOk r (AnswersIn Running client documents m params)
answers_running client documents m params (Ok a) e f h = rw (e, f) h
answers_running client documents m params (Err x) e f h = tt

-- an answer by the parameters of a message
pub asked_by : (server : Server) (m : List ℕ) (given params : Data) (a : Answer) → given ≡ params → AnswersAsked server m given a → AnswersAsked server m params a
asked_by server m given params a q h = subst (λ (d : Data). AnswersAsked server m d a) q h

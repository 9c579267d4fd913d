-- Answers to requests about open documents.
use Rattle.std.proofs.Common.{◌≡◌, List, ℕ, Bor, true, false, Some, None, Result, Ok, Err, IfOk, bytes_eq, codes, refl}
use Rattle.std.specs.declared.alloc.AllocError.{AllocError}
use Rattle.server_protocol.specs.declared.client.Client.{Client}
use Rattle.server_protocol.specs.declared.documents.Documents.{Documents}
use Rattle.server_protocol.specs.declared.messages.Answer.{Answer}
use Rattle.server_protocol.specs.declared.messages.Answer.TheVariants as answer
use Rattle.server_protocol.specs.declared.messages.ErrorCode.TheVariants.{MethodNotFound}
use Rattle.server_requests.specs.Answers.{IsResult}
use Rattle.pest_language_server.specs.Requests.{AnswersForDocument, AnswersOpen, request_of}
use Rattle.pest_language_server.specs.declared.requests.RequestMethod.{RequestMethod}
use Rattle.serde_json.specs.Data.{Data}

-- the symbols of the workspace
pub opens_workspace : (client : Client) (documents : Documents) (m : List ℕ) (params : Data) (r : Result Answer AllocError) → bytes_eq m (codes "workspace/symbol") ≡ true → IfOk r IsResult → IfOk r (AnswersOpen client documents m params)
opens_workspace client documents m params (Ok a) e h = rw e h
opens_workspace client documents m params (Err x) e h = tt

-- an answer about one document
pub opens_document : (client : Client) (documents : Documents) (m : List ℕ) (request : RequestMethod) (params : Data) (r : Result Answer AllocError) → bytes_eq m (codes "workspace/symbol") ≡ false → request_of m ≡ Some request → IfOk r (AnswersForDocument client documents request params) → IfOk r (AnswersOpen client documents m params)
opens_document client documents m request params (Ok a) e q h = rw (e, q) h
opens_document client documents m request params (Err x) e q h = tt

-- an unknown method
pub opens_nothing : (client : Client) (documents : Documents) (m : List ℕ) (params : Data) (reason : Bor (List ℕ)) → bytes_eq m (codes "workspace/symbol") ≡ false → request_of m ≡ None → AnswersOpen client documents m params (answer.Error MethodNotFound reason)
opens_nothing client documents m params reason e q = rw (e, q) refl

-- Messages of JSON-RPC.
use Rattle.std.specs.Prelude.{◌≡◌, ◌≤◌, ◌&&◌, ◌||◌, ℕ, ℤ, negsuc, List, Option, Some, None, is_none, is_some, Bool, true, false, codes, option_and_then, option_map, unwrap_or, if◌then◌else◌}
use Rattle.serde_json.specs.Data.{Data, null, number, string, object, no_members, member, depth}
use Rattle.serde_json.specs.Find.{as_null, as_number, as_str, get, of_integer}
use Rattle.serde_json.specs.Read.{max_depth, read}
use Rattle.serde_json.specs.View.{view}
use Rattle.serde_json.specs.Written.{compact_text, has_float}
use Rattle.server_protocol.specs.declared.messages.Answer.{Answer}
use Rattle.server_protocol.specs.declared.messages.Answer.TheVariants as answer
use Rattle.server_protocol.specs.declared.messages.ErrorCode.{ErrorCode}
use Rattle.server_protocol.specs.declared.messages.ErrorCode.TheVariants as code
use Rattle.server_protocol.specs.declared.messages.Incoming.{Incoming}
use Rattle.server_protocol.specs.declared.messages.Incoming.TheVariants as incoming

-- the numbers of errors
abbrev pub code_number : ErrorCode → ℤ
code_number code.ParseError = negsuc 32699
code_number code.InvalidRequest = negsuc 32599
code_number code.MethodNotFound = negsuc 32600
code_number code.InvalidParams = negsuc 32601
code_number code.InternalError = negsuc 32602
code_number code.ServerNotInitialized = negsuc 32001
code_number code.RequestFailed = negsuc 32802

-- the answer to the request of an id, by a result
abbrev pub result_data : Data → Data → Data
result_data id value = object (member (codes "id") id (member (codes "jsonrpc") (string (codes "2.0"))
    (member (codes "result") value no_members)))

-- the answer to the request of an id, by an error
abbrev pub error_data : Data → ErrorCode → List ℕ → Data
error_data id code reason = object (member (codes "error") (object
    (member (codes "code") (number (of_integer (code_number code))) (member (codes "message") (string reason)
    no_members))) (member (codes "id") id (member (codes "jsonrpc") (string (codes "2.0")) no_members)))

abbrev pub response_data : Data → Answer → Data
response_data id (answer.Result value) = result_data id (view value)
response_data id (answer.Error code reason) = error_data id code reason.now

abbrev pub notification_data : List ℕ → Data → Data
notification_data method params = object (member (codes "jsonrpc") (string (codes "2.0"))
    (member (codes "method") (string method) (member (codes "params") params no_members)))

-- a text is that of a message, without white space, and reads as the message, unless that nests deeper than
-- JSON is read
pub record IsMessage (message : Data) (text : List ℕ) : Type 0 where
  pub compact : has_float message ≡ false → text ≡ compact_text message
  pub reads : depth message ≤ max_depth → read text ≡ Some message

-- the id of a request is a number, a text or null
abbrev pub is_id : Data → Bool
is_id d = is_some (as_number d) || is_some (as_str d) || is_some (as_null d)

-- the method of a message
abbrev pub method_of : Data → Option (List ℕ)
method_of d = option_and_then as_str (get (codes "method") d)

-- the id, if it can be that of a request
abbrev pub id_of : Data → Option Data
id_of d = option_and_then (λ id. if is_id id then Some id else None) (get (codes "id") d)

-- the id and the method of a request
abbrev pub request_of : Data → Option (Data × List ℕ)
request_of d = option_and_then (λ method. option_map (λ id. (id, method)) (id_of d)) (method_of d)

-- the method, if there is no id
abbrev pub without_id : Option Data → List ℕ → Option (List ℕ)
without_id None method = Some method
without_id (Some id) method = None

-- the method of a notification
abbrev pub notification_of : Data → Option (List ℕ)
notification_of d = option_and_then (without_id (get (codes "id") d)) (method_of d)

-- whether a message without a method has a result or an error
abbrev pub is_response : Data → Bool
is_response d = is_none (get (codes "method") d)
    && (is_some (get (codes "result") d) || is_some (get (codes "error") d))

-- a message is a request, a notification, a response, or none of these
abbrev pub MatchIncoming : Data → Incoming → Type 0
MatchIncoming d (incoming.Request id method) = request_of d ≡ Some (view id.now, method.now)
MatchIncoming d (incoming.Notification method) =
    (request_of d ≡ None) × (notification_of d ≡ Some method.now)
MatchIncoming d incoming.Response =
    (request_of d ≡ None) × (notification_of d ≡ None) × (is_response d ≡ true)
MatchIncoming d incoming.Invalid =
    (request_of d ≡ None) × (notification_of d ≡ None) × (is_response d ≡ false)

-- a message is the request of this id and method, or the id cannot be that of a request
abbrev pub IsRequestOf : Data → List ℕ → Incoming → Type 0
IsRequestOf d method (incoming.Request id name) =
    (is_id d ≡ true) × (view id.now ≡ d) × (name.now ≡ method)
IsRequestOf d method (incoming.Notification name) = ⊥
IsRequestOf d method incoming.Response = ⊥
IsRequestOf d method incoming.Invalid = is_id d ≡ false

-- the parameters of a message, or null
abbrev pub params_of : Data → Data
params_of d = unwrap_or (get (codes "params") d) null

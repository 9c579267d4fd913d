-- Requests about documents.
use Rattle.std.specs.Prelude.{◌⊎◌, ℕ, List, [], ◌∷◌, MatchBool, MatchOption, Option, bytes_eq, codes, find, option_map, unwrap_or}
use Rattle.server_features.specs.Actions.{AreActions}
use Rattle.server_features.specs.Formatting.{AreFormatting, AreRangeFormatting}
use Rattle.server_features.specs.Renames.{stated_names}
use Rattle.server_protocol.specs.Asked.{text_in}
use Rattle.server_protocol.specs.declared.client.Client.{Client}
use Rattle.server_protocol.specs.declared.documents.Documents.{Documents}
use Rattle.server_protocol.specs.declared.messages.Answer.{Answer}
use Rattle.server_protocol.specs.declared.messages.ErrorCode.TheVariants.{InvalidParams, MethodNotFound}
use Rattle.server_requests.specs.Answers.{AreDefinitions, AreReferences, IsRename, IsResult, IsResultUnlessInvalid}
use Rattle.server_requests.specs.Completions.{AreCompletions}
use Rattle.server_requests.specs.Names.{IsContextIn, LacksDocument}
use Rattle.server_requests.specs.Refusals.{IsPrepared}
use Rattle.server_requests.specs.declared.context.Context.{Context}
use Rattle.pest_language_server.specs.Replies.{IsError}
use Rattle.pest_language_server.specs.declared.requests.MethodName.{MethodName}
use Rattle.pest_language_server.specs.declared.requests.RequestMethod.{RequestMethod}
use Rattle.pest_language_server.specs.declared.requests.RequestMethod.TheVariants as request
use Rattle.serde_json.specs.Data.{Data}

-- the names of the methods
abbrev pub method_names : List (List ℕ × RequestMethod)
method_names =
    (codes "textDocument/documentSymbol", request.DocumentSymbol)
    ∷ (codes "textDocument/foldingRange", request.FoldingRange)
    ∷ (codes "textDocument/selectionRange", request.SelectionRange)
    ∷ (codes "textDocument/definition", request.Definition)
    ∷ (codes "textDocument/references", request.References)
    ∷ (codes "textDocument/documentHighlight", request.DocumentHighlight)
    ∷ (codes "textDocument/prepareRename", request.PrepareRename)
    ∷ (codes "textDocument/rename", request.Rename)
    ∷ (codes "textDocument/hover", request.Hover)
    ∷ (codes "textDocument/completion", request.Completion)
    ∷ (codes "textDocument/formatting", request.Formatting)
    ∷ (codes "textDocument/rangeFormatting", request.RangeFormatting)
    ∷ (codes "textDocument/codeAction", request.CodeAction)
    ∷ (codes "textDocument/semanticTokens/full", request.SemanticTokens) ∷ []

abbrev pub name_of : MethodName → List ℕ × RequestMethod
name_of entry = (entry.name.now, entry.request)

abbrev pub request_among : List (List ℕ × RequestMethod) → List ℕ → Option RequestMethod
request_among names method = option_map (λ e. e.1) (find (λ e. bytes_eq e.0 method) names)

-- the request of a method
abbrev pub request_of : List ℕ → Option RequestMethod
request_of method = request_among method_names method

-- an answer to a request about a document: its places and its edits; of others, that it is no error
abbrev pub IsAnswerOf : RequestMethod → Context → Data → Answer → Type 0
IsAnswerOf request.DocumentSymbol context params a = IsResult a
IsAnswerOf request.FoldingRange context params a = IsResult a
IsAnswerOf request.SelectionRange context params a = IsResultUnlessInvalid a
IsAnswerOf request.Definition context params a = AreDefinitions context params a
IsAnswerOf request.References context params a = AreReferences context params a
IsAnswerOf request.DocumentHighlight context params a = IsResult a
IsAnswerOf request.PrepareRename context params a = IsPrepared context params a
IsAnswerOf request.Rename context params a = IsRename context (stated_names context.text.now) params a
IsAnswerOf request.Hover context params a = IsResult a
IsAnswerOf request.Completion context params a = AreCompletions context params a
IsAnswerOf request.Formatting context params a = AreFormatting context a
IsAnswerOf request.RangeFormatting context params a = AreRangeFormatting context params a
IsAnswerOf request.CodeAction context params a = AreActions context params a
IsAnswerOf request.SemanticTokens context params a = IsResult a

-- an answer to a request about the open document that parameters name, or an error if they name none
abbrev pub AnswersForDocument : Client → Documents → RequestMethod → Data → Answer → Type 0
AnswersForDocument client documents request params a =
    (LacksDocument documents params × IsError InvalidParams a)
    ⊎ ((context : Context) × IsContextIn client documents params context
    × IsAnswerOf request context params a)

-- an answer to a request about open documents
abbrev pub AnswersOpen : Client → Documents → List ℕ → Data → Answer → Type 0
AnswersOpen client documents method params a = MatchBool (bytes_eq method (codes "workspace/symbol"))
    (IsResult a)
    (MatchOption (request_of method) (IsError MethodNotFound a)
    (λ request. AnswersForDocument client documents request params a))

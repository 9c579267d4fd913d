-- Answers to requests by name.
use Rattle.std.specs.Prelude.{◌≡◌, ◌⊎◌, bytes_eq, ℕ, List, Bool, true, false, Some, None, filter, map, codes, ⊤}
use Rattle.serde_json.specs.Data.{Data, null}
use Rattle.serde_json.specs.View.{view, items_of}
use Rattle.server_protocol.specs.Asked.{is_true_in, text_in}
use Rattle.server_requests.specs.Calls.{is_call}
use Rattle.server_requests.specs.Locations.{edit_at, locations_at}
use Rattle.server_requests.specs.Names.{HasNoName, IsAskedName}
use Rattle.server_requests.specs.Refusals.{IsRefused}
use Rattle.server_requests.specs.Shown.{shown}
use Rattle.server_protocol.specs.Values.{workspace_edit_data}
use Rattle.server_requests.specs.declared.context.Context.{Context}
use Rattle.server_requests.specs.declared.context.Name.{Name}
use Rattle.server_protocol.specs.declared.messages.Answer.{Answer}
use Rattle.server_protocol.specs.declared.messages.Answer.TheVariants as answer
use Rattle.server_protocol.specs.declared.messages.ErrorCode.TheVariants.{InvalidParams, RequestFailed}
use Rattle.server_symbols.specs.Occurrences.{names_of, occurrences}
use Rattle.server_symbols.specs.Renaming.{Renames}
use Rattle.server_symbols.specs.declared.tokens.Extent.{Extent}

-- the definitions of the name at the position in parameters, or null if there is none
abbrev pub AreDefinitions : Context → Data → Answer → Type 0
AreDefinitions context d (answer.Result v) = (HasNoName context d × (view v ≡ null))
    ⊎ ((name : Name) × IsAskedName context d name × (view v ≡ locations_at context
    (names_of context.text.now name.text.now context.definitions.now)))
AreDefinitions context d (answer.Error code reason) = ⊥

-- where a name occurs, with its definitions or without
abbrev pub references_to : Context → List ℕ → Bool → List Extent
references_to context name true = occurrences context.text.now name context.tokens.now
references_to context name false =
    filter (is_call context.definitions.now) (occurrences context.text.now name context.tokens.now)

-- where the name at the position in parameters occurs, with its definitions if they ask for these, or null
-- if there is none
abbrev pub AreReferences : Context → Data → Answer → Type 0
AreReferences context d (answer.Result v) = (HasNoName context d × (view v ≡ null))
    ⊎ ((name : Name) × IsAskedName context d name × (view v ≡ locations_at context
    (references_to context name.text.now (is_true_in (codes "/context/includeDeclaration") d))))
AreReferences context d (answer.Error code reason) = ⊥

-- edits that write a new name
abbrev pub rename_data : Context → List ℕ → List Extent → Data
rename_data context new extents = workspace_edit_data context.uri.now (items_of
    (map (edit_at context new) extents))

-- whether an extent has a name
abbrev pub is_mention : List ℕ → List ℕ → Extent → Bool
is_mention text name extent = bytes_eq (shown text extent) name

-- the edits that give the rule at the position in parameters the new name in them, also among stated names
pub record IsRenameTo (context : Context) (stated : List Extent) (d v : Data) : Type 0 where
  pub name : Name
  pub new : List ℕ
  pub edits : List Extent
  pub asked_name : IsAskedName context d name
  pub asked_new : text_in (codes "/newName") d ≡ Some new
  pub renames : Renames context.text.now name.text.now new
      (filter (is_mention context.text.now name.text.now) stated) edits
  pub value : v ≡ rename_data context new edits

-- the edits of a rename, or the reason of a refusal: there is no new name, no name at the position, or that
-- rule is not given the new name
abbrev pub IsRename : Context → List Extent → Data → Answer → Type 0
IsRename context stated d (answer.Result v) = IsRenameTo context stated d (view v)
IsRename context stated d (answer.Error code reason) =
    ((text_in (codes "/newName") d ≡ None) × (code ≡ InvalidParams))
    ⊎ ((HasNoName context d ⊎ IsRefused context d reason.now) × (code ≡ RequestFailed))

-- an answer is a result, and no error
abbrev pub IsResult : Answer → Type 0
IsResult (answer.Result v) = ⊤
IsResult (answer.Error code reason) = ⊥

-- an answer is a result, or says that the parameters are wrong
abbrev pub IsResultUnlessInvalid : Answer → Type 0
IsResultUnlessInvalid (answer.Result v) = ⊤
IsResultUnlessInvalid (answer.Error code reason) = code ≡ InvalidParams

-- Renames that are refused, and those that can be asked for.
use Rattle.std.specs.Prelude.{◌≡◌, ◌≢◌, ◌⊎◌, ℕ, List, [], Some, codes}
use Rattle.serde_json.specs.Data.{Data, member, no_members, null, object, string}
use Rattle.serde_json.specs.View.{view}
use Rattle.server_protocol.specs.Asked.{text_in}
use Rattle.server_protocol.specs.declared.messages.Answer.{Answer}
use Rattle.server_protocol.specs.declared.messages.Answer.TheVariants as answer
use Rattle.server_protocol.specs.declared.messages.ErrorCode.TheVariants.{RequestFailed}
use Rattle.server_requests.specs.Locations.{range_at}
use Rattle.server_requests.specs.Names.{HasNoName, IsAskedName}
use Rattle.server_requests.specs.declared.context.Context.{Context}
use Rattle.server_requests.specs.declared.context.Name.{Name}
use Rattle.server_symbols.specs.Occurrences.{names_of}
use Rattle.server_symbols.specs.Renaming.{IsReason}
use Rattle.server_symbols.specs.declared.refusals.RenameRefusal.{RenameRefusal}
use Rattle.server_symbols.specs.declared.refusals.RenameRefusal.TheVariants as refusal
use Rattle.server_symbols.specs.declared.tokens.Extent.{Extent}

-- the reason of a refusal, in words
abbrev pub reason_of : RenameRefusal → List ℕ
reason_of refusal.NoRule = codes "no rule of this name is defined here"
reason_of refusal.NoIdentifier =
    codes "a name consists of letters, digits and `_`, and does not begin with a digit"
reason_of refusal.Keyword = codes "the new name is a keyword"
reason_of refusal.Builtin = codes "the new name is that of a builtin"
reason_of refusal.Taken = codes "the new name is taken"
reason_of refusal.NoGrammar = codes "the grammar has a syntax error"
reason_of refusal.OtherTokens = codes "the grammar would mean something else"

-- the rule at the position in parameters is not given the new name in them, for this reason
pub record IsRefused (context : Context) (d : Data) (reason : List ℕ) : Type 0 where
  pub name : Name
  pub new : List ℕ
  pub refusal : RenameRefusal
  pub asked_name : IsAskedName context d name
  pub asked_new : text_in (codes "/newName") d ≡ Some new
  pub refused : IsReason context.text.now name.text.now new refusal
  pub words : reason ≡ reason_of refusal

-- the definitions of a name
abbrev pub defined_as : Context → Name → List Extent
defined_as context name = names_of context.text.now name.text.now context.definitions.now

-- a name that can be renamed
abbrev pub prepared_data : Context → Name → Data
prepared_data context name = object (member (codes "placeholder") (string name.text.now)
    (member (codes "range") (range_at context name.extent) no_members))

-- a name can be renamed if a rule of that name is defined
abbrev pub IsPreparedAt : Context → Name → Answer → Type 0
IsPreparedAt context name (answer.Result v) =
    (defined_as context name ≢ []) × (view v ≡ prepared_data context name)
IsPreparedAt context name (answer.Error code reason) = (defined_as context name ≡ [])
    × (code ≡ RequestFailed) × (reason.now ≡ reason_of refusal.NoRule)

abbrev pub IsNull : Answer → Type 0
IsNull (answer.Result v) = view v ≡ null
IsNull (answer.Error code reason) = ⊥

-- whether the name at the position in parameters can be renamed; null if there is none
abbrev pub IsPrepared : Context → Data → Answer → Type 0
IsPrepared context d a = (HasNoName context d × IsNull a)
    ⊎ ((name : Name) × IsAskedName context d name × IsPreparedAt context name a)

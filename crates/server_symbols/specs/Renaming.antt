-- Renamed rules.
use Rattle.std.specs.Prelude.{◌≡◌, ◌≢◌, ◌⊎◌, ◌||◌, ℕ, List, [], ◌∷◌, ◌++◌, Bool, true, false, ◌&&◌, bytes_eq, if◌then◌else◌}
use Rattle.std.specs.List.{slice_range}
use Rattle.base_language.specs.declared.grammar.Rule.{Rule}
use Rattle.base_language.specs.declared.grammar.Rule.TheVariants as rule_is
use Rattle.base_language.specs.declared.grammar.Rule.TheVariants.{grammar_rules}
use Rattle.front_names.specs.Names.{is_builtin}
use Rattle.front_syntax.specs.Parses.{AreTokensOf, FailsAt}
use Rattle.front_syntax.specs.declared.events.TokenEvent.{TokenEvent}
use Rattle.front_syntax.specs.declared.events.TokenEvent.TheVariants.{Start, End}
use Rattle.server_symbols.specs.NewNames.{IsNewName, is_identifier as is_identifier_name, is_keyword}
use Rattle.server_symbols.specs.Parts.{replaced}
use Rattle.server_symbols.specs.declared.refusals.RenameRefusal.{RenameRefusal}
use Rattle.server_symbols.specs.declared.refusals.RenameRefusal.TheVariants as refusal
use Rattle.server_symbols.specs.declared.renaming.Renaming.{Renaming}
use Rattle.server_symbols.specs.declared.renaming.Renaming.TheVariants as answer
use Rattle.server_symbols.specs.declared.tokens.Extent.{Extent}

-- the position before the first token
abbrev pub first : TokenEvent
first = End 0 0

-- an event without its position
abbrev pub unplaced : TokenEvent → TokenEvent
unplaced (Start r i m) = Start r 0 m
unplaced (End i m) = End 0 m

abbrev pub is_identifier : Rule → Bool
is_identifier rule_is.identifier = true
is_identifier _ = false

abbrev pub is_definition_rule : Rule → Bool
is_definition_rule rule_is.grammar_rule = true
is_definition_rule _ = false

abbrev pub is_doc_rule : Rule → Bool
is_doc_rule rule_is.inner_doc = true
is_doc_rule _ = false

-- whether a token of a rule, from one byte up to another, is an identifier of a name
abbrev pub is_place : List ℕ → List ℕ → Rule → ℕ → ℕ → Bool
is_place text name r i j = is_identifier r && bytes_eq (slice_range text i j) name

-- the extent of an identifier of a name, between two neighbouring events
abbrev pub place_between : List ℕ → List ℕ → TokenEvent → TokenEvent → List Extent
place_between text name (Start r i m) (End j n) =
    if is_place text name r i j then record { start = i; end = j } ∷ [] else []
place_between text name e f = []

-- where a name occurs as an identifier, after an event
abbrev pub places_after : List ℕ → List ℕ → TokenEvent → List TokenEvent → List Extent
places_after text name e [] = []
places_after text name e (f ∷ es) = place_between text name e f ++ places_after text name f es

-- whether three neighbouring events are the start of a definition and its name
abbrev pub defines : List ℕ → List ℕ → TokenEvent → TokenEvent → TokenEvent → Bool
defines text name (Start o h l) (Start r i m) (End j n) =
    is_definition_rule o && is_place text name r i j
defines text name d e f = false

-- whether a rule of a name is defined, after two events
abbrev pub is_defined_after : List ℕ → List ℕ → TokenEvent → TokenEvent → List TokenEvent → Bool
is_defined_after text name d e [] = false
is_defined_after text name d e (f ∷ es) =
    defines text name d e f || is_defined_after text name e f es

abbrev pub is_defined : List ℕ → List ℕ → List TokenEvent → Bool
is_defined text name events = is_defined_after text name first first events

-- the text of a token that holds no other and is no documentation, between two neighbouring events
abbrev pub text_between : List ℕ → TokenEvent → TokenEvent → List ℕ
text_between text (Start r i m) (End j n) = if is_doc_rule r then [] else slice_range text i j
text_between text e f = []

-- the same with a new name in place of one
abbrev pub renamed_between : List ℕ → List ℕ → List ℕ → TokenEvent → TokenEvent → List ℕ
renamed_between text name new (Start r i m) (End j n) =
    if is_doc_rule r then [] else (if is_place text name r i j then new else slice_range text i j)
renamed_between text name new e f = []

-- the tokens after an event: where they start and end among one another, and the texts of those that hold
-- no other and are no documentation
abbrev pub tokens_after : List ℕ → TokenEvent → List TokenEvent → List (TokenEvent × List ℕ)
tokens_after text e [] = []
tokens_after text e (f ∷ es) = (unplaced f, text_between text e f) ∷ tokens_after text f es

-- the same with a new name in place of one
abbrev pub renamed_after :
    List ℕ → List ℕ → List ℕ → TokenEvent → List TokenEvent → List (TokenEvent × List ℕ)
renamed_after text name new e [] = []
renamed_after text name new e (f ∷ es) =
    (unplaced f, renamed_between text name new e f) ∷ renamed_after text name new f es

-- an edited text is a grammar that has the tokens of another one, but for a new name and documentation
pub record IsEdited (text name new : List ℕ) (events : List TokenEvent) (edited : List ℕ) : Type 0 where
  pub others : List TokenEvent
  pub of_edited : AreTokensOf grammar_rules edited others
  pub tokens : tokens_after edited first others ≡ renamed_after text name new first events

-- no rule has the new name but the one that is renamed
abbrev pub IsFree : List ℕ → List ℕ → List ℕ → List TokenEvent → Type 0
IsFree text name new events =
    (bytes_eq name new ≡ true) ⊎ (places_after text new first events ≡ [])

-- edits rename a rule: they are where it is mentioned, and where its name is an identifier, and the edited
-- text has the tokens of the text, with the new name in place of the old one
pub record Renames (text name new : List ℕ) (mentions edits : List Extent) : Type 0 where
  pub new_name : IsNewName new
  pub events : List TokenEvent
  pub of_text : AreTokensOf grammar_rules text events
  pub is_defined : is_defined text name events ≡ true
  pub is_free : IsFree text name new events
  pub places : edits ≡ mentions ++ places_after text name first events
  pub edited : IsEdited text name new events (replaced text 0 edits new)

-- a text is no grammar
abbrev pub IsNoGrammar : List ℕ → Type 0
IsNoGrammar text = (place : ℕ) × FailsAt grammar_rules text place

-- a grammar defines no rule of a name
pub record LacksRule (text name : List ℕ) : Type 0 where
  pub events : List TokenEvent
  pub of_text : AreTokensOf grammar_rules text events
  pub undefined : is_defined text name events ≡ false

-- a name is that of a rule that a grammar defines or calls
pub record IsTaken (text name : List ℕ) : Type 0 where
  pub events : List TokenEvent
  pub of_text : AreTokensOf grammar_rules text events
  pub occurs : places_after text name first events ≢ []

-- a reason for which a rule is not given a new name
abbrev pub IsReason : List ℕ → List ℕ → List ℕ → RenameRefusal → Type 0
IsReason text name new refusal.NoRule = LacksRule text name
IsReason text name new refusal.NoIdentifier = is_identifier_name new ≡ false
IsReason text name new refusal.Keyword = is_keyword new ≡ true
IsReason text name new refusal.Builtin = is_builtin new ≡ true
IsReason text name new refusal.Taken = IsTaken text new
IsReason text name new refusal.NoGrammar = IsNoGrammar text
IsReason text name new refusal.OtherTokens = Unit {0}

-- the edits of a rename, or a reason for none
abbrev pub IsRenaming : List ℕ → List ℕ → List ℕ → List Extent → Renaming → Type 0
IsRenaming text name new mentions (answer.Edits edits) = Renames text name new mentions edits.items
IsRenaming text name new mentions (answer.Refused reason) = IsReason text name new reason

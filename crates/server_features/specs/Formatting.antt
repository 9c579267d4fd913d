-- Edits that format a document.
use Rattle.std.specs.Prelude.{◌≡◌, ◌⊎◌, ◌&&◌, ◌∷◌, [], ℕ, List, Bool, Option, Some, None, String, filter, map, max, min, nat_le, string_bytes, if◌then◌else◌}
use Rattle.std.specs.declared.alloc.Global.{Global}
use Rattle.server_protocol.specs.Changes.{asked_range}
use Rattle.server_protocol.specs.declared.messages.Answer.{Answer}
use Rattle.server_protocol.specs.declared.messages.Answer.TheVariants as answer
use Rattle.server_protocol.specs.declared.messages.ErrorCode.TheVariants.{InvalidParams}
use Rattle.base_language.specs.declared.grammar.Rule.{Rule}
use Rattle.base_language.specs.declared.grammar.Rule.TheVariants.{grammar_rules}
use Rattle.base_language.specs.declared.runtime.errors.Error.{Error}
use Rattle.format_grammar.specs.Formatting.{AreTokens, IsFormatted}
use Rattle.format_grammar.specs.declared.LineEnds.TheVariants.{OfFirstLine}
use Rattle.server_requests.specs.Locations.{edit_at}
use Rattle.server_requests.specs.Names.{IsAskedExtent}
use Rattle.server_requests.specs.Shown.{shown}
use Rattle.server_requests.specs.declared.context.Context.{Context}
use Rattle.server_symbols.specs.Edits.{Edits}
use Rattle.server_symbols.specs.declared.outline.Definition.{Definition}
use Rattle.server_symbols.specs.declared.edits.Edit.{Edit}
use Rattle.server_symbols.specs.declared.tokens.Extent.{Extent}
use Rattle.front_syntax.specs.Parses.{IsRefused}
use Rattle.front_syntax.specs.declared.events.TokenEvent.{TokenEvent}
use Rattle.serde_json.specs.Data.{Data, array, null}
use Rattle.serde_json.specs.View.{items_of, view}

-- a text is no grammar, or one that stays as it is
abbrev pub StaysAsItIs : List ℕ → Type 0
StaysAsItIs text = ((errors : List (Error Rule)) × IsRefused grammar_rules text errors)
    ⊎ ((events : List TokenEvent) × AreTokens text events)

-- the formatted text of a grammar, if it is formatted
abbrev pub IsFormattedAs : List ℕ → Option (String Global) → Type 0
IsFormattedAs text None = StaysAsItIs text
IsFormattedAs text (Some formatted) = IsFormatted OfFirstLine text (string_bytes formatted)

abbrev pub edit_for : Context → List ℕ → Edit → Data
edit_for context formatted edit = edit_at context (shown formatted edit.new) edit.old

abbrev pub edits_data : Context → List ℕ → List Edit → Data
edits_data context formatted edits = array (items_of (map (edit_for context formatted) edits))

-- a value has edits that make a document's text another one, all of them
abbrev pub HasEdits : Context → List ℕ → Data → Type 0
HasEdits context formatted v = (edits : List Edit) × Edits context.text.now formatted edits
    × (v ≡ edits_data context formatted edits)

-- whether an edit is within an extent
abbrev pub is_within : Extent → Edit → Bool
is_within extent edit = nat_le extent.start edit.old.start && nat_le edit.old.end extent.end

-- or those of them that are within an extent
abbrev pub HasEditsWithin : Extent → Context → List ℕ → Data → Type 0
HasEditsWithin extent context formatted v = (edits : List Edit)
    × Edits context.text.now formatted edits
    × (v ≡ edits_data context formatted (filter (is_within extent) edits))

-- an answer has such a value
abbrev pub HasValue : (Data → Type 0) → Answer → Type 0
HasValue P (answer.Result v) = P (view v)
HasValue P (answer.Error code reason) = ⊥

-- an answer has such edits of a document to its formatted text, or null if it stays as it is
abbrev pub Formats : (Context → List ℕ → Data → Type 0) → Context → Answer → Type 0
Formats P context a = (StaysAsItIs context.text.now × HasValue (λ v. v ≡ null) a)
    ⊎ ((formatted : List ℕ) × IsFormatted OfFirstLine context.text.now formatted
    × HasValue (P context formatted) a)

abbrev pub AreFormatting : Context → Answer → Type 0
AreFormatting context a = Formats HasEdits context a

-- whether two extents touch
abbrev pub do_touch : Extent → Extent → Bool
do_touch extent other = nat_le other.start extent.end && nat_le extent.start other.end

-- the bytes from the first start to the last end of two extents
abbrev pub join : Extent → Extent → Extent
join extent other = record { start = min extent.start other.start; end = max extent.end other.end }

-- an extent with a definition, if that touches another extent
abbrev pub with_touched : Extent → Extent → Extent → Extent
with_touched extent around whole = if do_touch extent whole then join around whole else around

-- with all the definitions that do
abbrev pub rules_around : Extent → Extent → List Definition → Extent
rules_around extent around [] = around
rules_around extent around (definition ∷ definitions) =
    rules_around extent (with_touched extent around definition.whole) definitions

-- the edits within the range in parameters and the rules that it touches
pub record FormatsRange (context : Context) (params : Data) (a : Answer) : Type 0 where
  pub asked : Extent
  pub is_asked : IsAskedExtent context params asked
  pub formats : Formats (HasEditsWithin (rules_around asked asked context.definitions.now)) context a

abbrev pub AreRangeFormatting : Context → Data → Answer → Type 0
AreRangeFormatting context params (answer.Result v) = FormatsRange context params (answer.Result v)
AreRangeFormatting context params (answer.Error code reason) =
    (asked_range params ≡ None) × (code ≡ InvalidParams)

-- The trees that a text spells for a rule.
use Rattle.std.specs.Prelude.{◌≡◌, List, [], ◌∷◌, ℕ, ⊤}
use Rattle.base_language.specs.Language.State.{Trees, Failure, Classes}
use Rattle.base_language.specs.Language.FurthestFailure.{furthest}
use Rattle.base_language.specs.declared.grammar.Rule.{Rule}
use Rattle.base_language.specs.declared.grammar.Rule.TheVariants as rule_is
use Rattle.front_syntax.specs.declared.events.TokenEvent.{TokenEvent}
use Rattle.base_language.specs.Pieces.NamedTrees.{named}
use Rattle.base_language.specs.Pieces.Pairs.{pairs_text, pairs_trees}
use Rattle.base_language.specs.Pieces.LineColumn.{line_column}
use Rattle.base_language.specs.Pieces.PrintedError.{error_line, printed_line}
use Rattle.base_language.specs.declared.runtime.tokens.Pairs.{Pairs}
use Rattle.base_language.specs.declared.runtime.errors.Error.{Error}
use Rattle.base_language.specs.declared.runtime.errors.ErrorVariant.TheVariants.{ParsingError}
use Rattle.base_language.specs.declared.runtime.errors.InputLocation.TheVariants as at
use Rattle.base_language.specs.declared.runtime.errors.LineColLocation.TheVariants as in_lines
use Rattle.base_language.specs.declared.runtime.faults.Fault.{Fault}
use Rattle.base_language.specs.declared.runtime.faults.Fault.TheVariants as fault_is
use Rattle.front_grammar.specs.Outcomes.{Recognizes, Spells}
use Rattle.front_nodes.specs.Forests.{forest_text, forest_trees}
use Rattle.front_nodes.specs.declared.forest.Forest.{Forest}
use Rattle.front_syntax.specs.TokenEvents.{events_of, named_events}

-- these are the events of trees that the text spells
abbrev pub AreTokensOf : Rule → List ℕ → List TokenEvent → Type 0
AreTokensOf rule text es = (us : Trees) × Spells rule text us × (named_events es ≡ events_of 0 us)

-- the pairs are all those that their text spells for the rule
abbrev pub AreSpelled : Rule → Pairs Rule → Type 0
AreSpelled rule pairs = Spells rule (pairs_text pairs) (named (pairs_trees pairs))

-- the pairs are all those of a parse of a grammar
abbrev pub AreOfAGrammar : Pairs Rule → Type 0
AreOfAGrammar pairs = AreSpelled rule_is.grammar_rules pairs

-- trees of a text are all those that it spells for the rule
abbrev pub IsSpelled : Rule → Forest → Type 0
IsSpelled rule forest = Spells rule (forest_text forest) (named (forest_trees forest))

abbrev pub IsOfAGrammar : Forest → Type 0
IsOfAGrammar forest = IsSpelled rule_is.grammar_rules forest

-- the rule fails, for all classes, and this is the position of the failure
abbrev pub FailsAt : Rule → List ℕ → ℕ → Type 0
FailsAt rule text place =
    (classes : Classes) → (d : Recognizes rule text classes Failure) × (place ≡ furthest d)

-- the errors are one syntax error, at a position of a text
pub record IsSyntaxError (text : List ℕ) (place : ℕ) (errors : List (Error Rule)) : Type 0 where
  pub error : Error Rule
  pub one : errors ≡ error ∷ []
  pub variant : error.variant ≡ ParsingError
  pub location : error.location ≡ at.Pos place
  pub line_col : error.line_col ≡ in_lines.Pos (line_column text place)
  pub line : error_line error ≡ printed_line text place

abbrev pub IsSyntaxErrorOrMemory : List ℕ → ℕ → Fault → Type 0
IsSyntaxErrorOrMemory text place (fault_is.Memory e) = ⊤
IsSyntaxErrorOrMemory text place (fault_is.Grammar errors) = IsSyntaxError text place errors.items

-- one syntax error at the position where the rule fails, unless memory is refused
pub record IsRefused (rule : Rule) (text : List ℕ) (errors : List (Error Rule)) : Type 0 where
  pub place : ℕ
  pub fails : FailsAt rule text place
  pub says : IsSyntaxError text place errors

abbrev pub ParseRefuses : Rule → List ℕ → Fault → Type 0
ParseRefuses rule text (fault_is.Memory e) = ⊤
ParseRefuses rule text (fault_is.Grammar errors) = IsRefused rule text errors.items

-- Answers of the reader to the pairs of a grammar's text.
use Rattle.std.specs.Prelude.{◌≡◌, ℕ, List, [], ◌∷◌, Option, MatchOption, codes, ⊤}
use Rattle.base_language.specs.Pieces.NamedTrees.{named}
use Rattle.base_language.specs.Pieces.Saying.{IsErrorAt}
use Rattle.base_language.specs.Pieces.Pairs.{pairs_text, pairs_trees}
use Rattle.base_language.specs.declared.grammar.Rule.{Rule}
use Rattle.base_language.specs.declared.runtime.errors.Error.{Error}
use Rattle.base_language.specs.declared.runtime.faults.Fault as code
use Rattle.base_language.specs.declared.runtime.faults.Fault.TheVariants as code_is
use Rattle.base_language.specs.declared.runtime.tokens.Pairs.{Pairs}
use Rattle.front_reader.specs.Flaws.{Cause, NoScalarValue, PastI32, PastU32, ZeroTimes, Flaw, first_flaw}
use Rattle.front_nodes.specs.Forests.{forest_text, forest_trees}
use Rattle.front_nodes.specs.declared.forest.Forest.{Forest}
use Rattle.front_reader.specs.Reading.{ReadsRules}
use Rattle.front_spanned.specs.Spanned.{SpannedRule}

-- the message of a flaw's error
abbrev pub cause_message : Cause → List ℕ
cause_message NoScalarValue = codes "escape is not a Unicode scalar value"
cause_message PastI32 = codes "number cannot overflow i32"
cause_message PastU32 = codes "number cannot overflow u32"
cause_message ZeroTimes = codes "cannot repeat 0 times"

-- the errors are one error, which has the message of the flaw and its span
pub record ReportsFlaw (flaw : Flaw) (errors : List (Error Rule)) : Type 0 where
  pub error : Error Rule
  pub one : errors ≡ error ∷ []
  pub says : IsErrorAt (cause_message flaw.cause) flaw.span error

-- an allocation failure, or one error that reports the first flaw
abbrev pub IsReadRefusal : Option Flaw → code.Fault → Type 0
IsReadRefusal first (code_is.Memory e) = ⊤
IsReadRefusal first (code_is.Grammar errors) = MatchOption first ⊥ (λ flaw. ReportsFlaw flaw errors.items)

-- the pairs are read as these rules
abbrev pub AreReadAs : Pairs Rule → List SpannedRule → Type 0
AreReadAs pairs rules = ReadsRules (pairs_text pairs) (named (pairs_trees pairs)) rules

-- the first flaw of the pairs
abbrev pub first_flaw_of : Pairs Rule → Option Flaw
first_flaw_of pairs = first_flaw (pairs_text pairs) (named (pairs_trees pairs))

-- trees of a text are read as these rules
abbrev pub IsReadAs : Forest → List SpannedRule → Type 0
IsReadAs forest rules = ReadsRules (forest_text forest) (named (forest_trees forest)) rules

-- their first flaw
abbrev pub first_flaw_in : Forest → Option Flaw
first_flaw_in forest = first_flaw (forest_text forest) (named (forest_trees forest))

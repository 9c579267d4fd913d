-- Laws of what a text spells.
use Rattle.std.specs.Prelude.{◌≡◌, ℕ, List, map}
use Rattle.std.specs.Borrow.{Bor}
use Rattle.std.specs.Str.{IsUtf8}
use Rattle.base_language.specs.Language.Expression.{Expression, Grammar, RuleType}
use Rattle.base_language.specs.Language.State.{Trees}
use Rattle.base_language.specs.declared.grammar.Rule.{Rule}
use Rattle.base_language.specs.declared.runtime.errors.Error.{Error}
use Rattle.front_optimizer.specs.Passes.{IsOptimized}
use Rattle.front_restorer.specs.Restoring.{HaveNoWrappers}
use Rattle.front_validator.specs.Alike.{AreAlike}
use Rattle.pest_meta.specs.Spelling.{AreFlawed, AreReadAsRules, HasAnswer, HasRefusal, HasTrees, HasWrongRules, IsAnsweredBy, IsMisnamed, IsNoGrammar, IsRefusedWith, SpellsGrammar}
use Rattle.pest_meta.specs.Written.{SpellsAccepted}

-- a text has one list of trees at most
abbrev pub HasOneListOfTrees : Type 0
HasOneListOfTrees = (text : List ℕ) (trees others : Trees) → HasTrees text trees → HasTrees text others
    → trees ≡ others

-- a text that has trees is a grammar
abbrev pub HasTreesOrFails : Type 0
HasTreesOrFails = (text : List ℕ) (trees : Trees) (errors : List (Error Rule)) → HasTrees text trees
    → IsNoGrammar text errors → ⊥

-- trees that have a flaw give no rules
abbrev pub FlawedGiveNothing : Type 0
FlawedGiveNothing = (text : List ℕ) (trees : Trees) (errors : List (Error Rule)) (rules : Grammar)
    → AreFlawed text trees errors → AreReadAsRules text trees rules → ⊥

-- a text spells one list of rules at most
abbrev pub SpellsOneGrammar : Type 0
SpellsOneGrammar = (text : List ℕ) (rules others : Grammar) → SpellsGrammar text rules
    → SpellsGrammar text others → rules ≡ others

-- a text is not both answered and refused
abbrev pub IsNotBoth : Type 0
IsNotBoth = (text : List ℕ) → HasAnswer text → HasRefusal text → ⊥

-- trees that are refused for their names are not refused for their rules
abbrev pub NamesComeFirst : Type 0
NamesComeFirst = (text : List ℕ) (trees : Trees) (errors others : List (Error Rule))
    → IsMisnamed text trees errors → HasWrongRules text trees others → ⊥

-- a text is refused with one list of errors at most, compared by message and span
abbrev pub HasOneRefusal : Type 0
HasOneRefusal = (text : List ℕ) (errors others : List (Error Rule)) → IsRefusedWith text errors
    → IsRefusedWith text others → AreAlike errors others

-- the condition on a pass determines its result for an expression in a rule of a type
abbrev pub HasOneResult : (RuleType → Expression → Expression → Type 0) → Type 0
HasOneResult P = (y : RuleType) (a b c : Expression) → P y a b → P y a c → b ≡ c

-- rules are optimized in one way at most
abbrev pub HasOneOptimization : Type 0
HasOneOptimization = (rules answer other : Grammar) → IsOptimized rules answer → IsOptimized rules other
    → answer ≡ other

-- rules without wrappers are optimized in some way
abbrev pub HaveOptimizations : Type 0
HaveOptimizations = (rules : Grammar) → HaveNoWrappers rules → (answer : Grammar) × IsOptimized rules answer

-- a text of which the rules are accepted, and the names in order, has an answer
abbrev pub AcceptedHaveAnswers : Type 0
AcceptedHaveAnswers = (text : List ℕ) (rules : Grammar) → SpellsAccepted text rules → HasAnswer text

-- two answers for a text have the same builtins, as texts
abbrev pub HasOneListOfBuiltins : Type 0
HasOneListOfBuiltins = (text : List ℕ) (builtins others : List (Bor (List ℕ))) (answer rules : Grammar)
    → IsAnsweredBy text builtins answer → IsAnsweredBy text others rules
    → map (λ t. t.now) builtins ≡ map (λ t. t.now) others

-- two answers for a text have the same rules
abbrev pub HasOneListOfRules : Type 0
HasOneListOfRules = (text : List ℕ) (builtins others : List (Bor (List ℕ))) (answer rules : Grammar)
    → IsAnsweredBy text builtins answer → IsAnsweredBy text others rules → answer ≡ rules

-- this holds of the rules of each answer
abbrev pub OfAnswers : (Grammar → Type 0) → Type 0
OfAnswers P = (text : List ℕ) (builtins : List (Bor (List ℕ))) (answer : Grammar) → IsUtf8 text
    → IsAnsweredBy text builtins answer → P answer

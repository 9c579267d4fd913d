-- Promises about the grammar that an accepted text spells, and about the answered rules.
use Rattle.std.specs.Prelude.{◌≡◌, ℕ, List, None, true, All, chars, map}
use Rattle.std.specs.Borrow.{Bor}
use Rattle.base_language.specs.Language.Builtins.{is_one_of}
use Rattle.base_language.specs.Language.Expression.{Grammar, Ident, rule_of}
use Rattle.base_language.specs.Language.Grammar.{IsGrammar}
use Rattle.base_language.specs.Rewritings.Rewriting.{Chain, EachBody, SameOutcomes}
use Rattle.base_language.specs.Language.State.{Classes, Trees}
use Rattle.base_language.specs.Language.Text.{Text}
use Rattle.base_language.specs.Language.WellFormed.{EndsFrom, InSomeRule, IsWellFormed, Start}
use Rattle.front_names.specs.Names.{is_builtin}
use Rattle.front_optimizer.specs.Passes.{IsListing}
use Rattle.front_spanned.specs.Spanned.{SpannedRule}
use Rattle.front_reader.specs.Reading.{ReadsRules}
use Rattle.pest_meta.specs.Spelling.{HasTrees, SpellsGrammar}

-- this holds of the grammar that the text spells
abbrev pub OfSpelled : List ℕ → (Grammar → Type 0) → Type 0
OfSpelled text P = (g : Grammar) → SpellsGrammar text g → P g

-- this holds of the rules that the text's trees are read as, with the spans of nodes
abbrev pub OfRead : List ℕ → (List SpannedRule → Type 0) → Type 0
OfRead text P =
    (trees : Trees) (rules : List SpannedRule) → HasTrees text trees → ReadsRules text trees rules → P rules

-- the builtins of a grammar, which no rule has; they include every name that occurs in a body and that no
-- rule has
pub record AreBuiltinsOf (g : Grammar) (names : List (Bor (List ℕ))) : Type 0 where
  pub outside : All (λ name. (is_builtin name.now ≡ true) × (rule_of g (chars name.now) ≡ None)) names
  pub complete : (n : Text) → InSomeRule g (Ident n) → rule_of g n ≡ None
      → is_one_of (map (λ name. chars name.now) names) n ≡ true

-- g is a grammar, and well-formed
abbrev pub IsWellFormedGrammar : Grammar → Type 0
IsWellFormedGrammar g = IsGrammar g × IsWellFormed g

-- wherever it is started it has exactly one outcome
abbrev pub EndsFromEverywhere : Grammar → Type 0
EndsFromEverywhere g = (classes : Classes) (start : Start g) → EndsFrom g classes start

-- rewritings lead to a grammar that has the same outcomes from everywhere, and of which the answer is the
-- listing once wrappers are left out
pub record HasOutcomesOf (g answer : Grammar) : Type 0 where
  pub reached : Grammar
  pub chain : Chain g reached
  pub outcomes : SameOutcomes g reached
  pub grammar : IsWellFormedGrammar reached
  pub listing : EachBody (λ y. IsListing) reached answer

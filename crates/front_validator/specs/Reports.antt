-- The validator's reports of repetitions, skipped rules and recursion.
use Rattle.std.specs.Prelude.{◌≡◌, ◌⊎◌, ℕ, Some}
use Rattle.base_language.specs.Language.Text.{Text}
use Rattle.base_language.specs.Language.Expression.{Expression, Rep, RepOnce, RepMin, Rule, Grammar, rule_of}
use Rattle.base_language.specs.Language.WellFormed.{IsNullable, CannotFail, InRules, IsSkipped}
use Rattle.front_validator.specs.Walk.{WalkLeads}

-- a repetition with no upper number, and its body
pub data Repeats : Expression → Expression → Type 0 where
  repeats_any : {e : Expression} → Repeats (Rep e) e
  repeats_once : {e : Expression} → Repeats (RepOnce e) e
  repeats_min : {e : Expression} {i : ℕ} → Repeats (RepMin e i) e

module _ (g : Grammar) where
  pub data Reported : Type 0 where
    endless : {x e : Expression} → Repeats x e → InRules g x → CannotFail g e ⊎ IsNullable g e → Reported
    bad_skipped : {n : Text} {r : Rule} → IsSkipped n → rule_of g n ≡ Some r
        → CannotFail g r.body ⊎ IsNullable g r.body → Reported
    recursive : {n : Text} {r : Rule} → rule_of g n ≡ Some r → WalkLeads g n n → Reported

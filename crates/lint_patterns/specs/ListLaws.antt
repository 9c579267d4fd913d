-- The warnings are true.
use Rattle.std.specs.Prelude.{◌≡◌, ◌≢◌, true, false, Bool}
use Rattle.base_language.specs.Language.Expression.{Expression, Grammar, RuleType, Seq, Rep}
use Rattle.base_language.specs.Language.Meaning.{Does, Matches, Skipping}
use Rattle.base_language.specs.Language.State.{Classes, Mode, State, Trees, Success, Failure}
use Rattle.base_language.specs.Language.Text.{Text}
use Rattle.base_language.specs.Rewritings.Listing.{listed}
use Rattle.base_language.specs.Rewritings.Rewriting.{IsDone, Rotates}
use Rattle.lint_patterns.specs.Rewritten.{IsPassed, has_list, is_searched}
use Rattle.front_optimizer.specs.Passes.{IsOptimizedBody}
use Rattle.front_restorer.specs.Changing.{HasNoWrappers}

-- where a body has such a list, the listing changes it
abbrev pub ListsAreChanged : Type 0
ListsAreChanged = (f : Text → Bool) (e : Expression) → has_list f e ≡ true → listed e ≢ e

-- of a body without forward searches, the listing of what these passes leave is what all passes leave
abbrev pub PassesAreAll : Type 0
PassesAreAll = (g : Grammar) (y : RuleType) (e a b : Expression) → IsDone Rotates e a
    → is_searched y a ≡ false → IsPassed y a b → HasNoWrappers (listed b) → IsOptimizedBody g y e (listed b)

-- where `x ~ y` matches and then no `x`, the list fails, and what is run in its place succeeds
abbrev pub RewrittenMatchesMore : Type 0
RewrittenMatchesMore = (g : Grammar) (classes : Classes) (x y : Expression) (m : Mode) (s t u v w : State)
    (us vs ws xs : Trees)
    → Matches g classes x m s (Success t us) → Does g classes (Skipping m) t (Success u vs)
    → Matches g classes y m u (Success v ws) → Does g classes (Skipping m) v (Success w xs)
    → Matches g classes x m w Failure
    → Matches g classes (Seq (Rep (Seq x y)) x) m s Failure
    × (o : State) × (zs : Trees) × Matches g classes (Seq x (Rep (Seq y x))) m s (Success o zs)

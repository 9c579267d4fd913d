-- The matches that the listing of a rule keeps.
use Rattle.std.specs.Prelude.{◌≡◌, Bool, ⊤}
use Rattle.base_language.specs.Language.Expression.{Expression, RuleType, Atomic, CompoundAtomic, Seq, Rep, Grammar}
use Rattle.base_language.specs.Language.State.{Classes, Mode, State, Success, Trees}
use Rattle.base_language.specs.Language.Meaning.{Matches, mode_in}
use Rattle.base_language.specs.Rewritings.Listing.{listed}

-- the types of rules in which nothing is skipped
abbrev pub SkipsNothing : RuleType → Type 0
SkipsNothing Atomic = ⊤
SkipsNothing CompoundAtomic = ⊤
SkipsNothing _ = ⊥

-- where a body of that type is `(x ~ y)* ~ x`, and `x ~ y` lists to itself, the other matches all that
-- the body matches, with the same end, stack and trees
abbrev pub KeepsMatches : RuleType → Expression → Expression → Type 0
KeepsMatches type body other =
    (g : Grammar) (classes : Classes) (x y : Expression) (blank : Bool) (m : Mode) (s t : State) (us : Trees)
    → SkipsNothing type → body ≡ Seq (Rep (Seq x y)) x → listed (Seq x y) ≡ Seq x y
    → Matches g classes body (mode_in type blank m) s (Success t us)
    → Matches g classes other (mode_in type blank m) s (Success t us)

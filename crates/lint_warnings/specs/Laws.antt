-- The warnings are true, by the relation of matching.
use Rattle.std.specs.Prelude.{◌≡◌, ◌≢◌, ◌↔◌, ◌⊎◌, true, List, [], ◌∷◌, map}
use Rattle.std.specs.List.{AllByRecursion}
use Rattle.base_language.specs.Language.Text.{Text}
use Rattle.base_language.specs.Language.Expression.{Expression, Grammar, Ident}
use Rattle.base_language.specs.Language.Meaning.{Matches}
use Rattle.base_language.specs.Language.State.{Classes, Mode, State, Outcome, Failure}
use Rattle.front_spanned.specs.Erasure.{without_spans}
use Rattle.front_spanned.specs.Spanned.{Span, Spanned, SpannedRule, Leaf, One, Two, Choice}
use Rattle.lint_warnings.specs.Choices.{alternatives, calls, is_begun, literals}
use Rattle.lint_warnings.specs.Ranges.{is_reversed}
use Rattle.lint_warnings.specs.Rules.{is_called}

-- from this start the expression fails, and does nothing else
abbrev pub FailsAlone : Grammar → Classes → Expression → Mode → State → Type 0
FailsAlone g classes e m s =
    Matches g classes e m s Failure × ((o : Outcome) → Matches g classes e m s o → o ≡ Failure)

-- wherever all before it fail, it fails
abbrev pub IsNeverTaken : List Expression → Expression → Type 0
IsNeverTaken earlier e = (g : Grammar) (classes : Classes) (m : Mode) (s : State)
    → AllByRecursion (λ x. Matches g classes x m s Failure) earlier → FailsAlone g classes e m s

-- both do the same from every start, over every grammar
abbrev pub IsSameEverywhere : Expression → Expression → Type 0
IsSameEverywhere e f = (g : Grammar) (classes : Classes) (m : Mode) (s : State) (o : Outcome)
    → Matches g classes e m s o ↔ Matches g classes f m s o

-- an alternative that a literal or a call before it begins is never taken
abbrev pub BegunIsNeverTaken : Type 0
BegunIsNeverTaken = (earlier : List Spanned) (x : Spanned)
    → is_begun (literals earlier) (calls earlier) x ≡ true
    → IsNeverTaken (map without_spans earlier) (without_spans x)

-- a choice does what it does without such an alternative at its end
abbrev pub BegunChangesNothing : Type 0
BegunChangesNothing = (span : Span) (x y : Spanned)
    → is_begun (literals (alternatives x)) (calls (alternatives x)) y ≡ true
    → IsSameEverywhere (without_spans (Two span Choice x y)) (without_spans x)

-- a range whose first bound is above its last fails everywhere
abbrev pub ReversedFails : Type 0
ReversedFails = (x : Spanned) → is_reversed x ≡ true
    → (g : Grammar) (classes : Classes) (m : Mode) (s : State) → FailsAlone g classes (without_spans x) m s

-- an expression contains a call of the name
abbrev pub Calls : Spanned → Text → Type 0
Calls (Leaf s e) n = e ≡ Ident n
Calls (One s f x) n = Calls x n
Calls (Two s f x y) n = Calls x n ⊎ Calls y n

-- a rule of another name contains a call of the name
abbrev pub IsCalledElsewhere : List SpannedRule → Text → Type 0
IsCalledElsewhere [] n = ⊥
IsCalledElsewhere (r ∷ rs) n = ((r.name ≢ n) × Calls r.body n) ⊎ IsCalledElsewhere rs n

abbrev pub CalledIsCalled : Type 0
CalledIsCalled = (rules : List SpannedRule) (n : Text) → is_called rules n ≡ true ↔ IsCalledElsewhere rules n

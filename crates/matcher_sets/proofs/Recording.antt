-- What the parts of a derivation record.
use Rattle.std.proofs.Common.{◌≡◌, ap, ap₂, refl, Bool, true, false, ◌||◌}
use Rattle.base_language.specs.Language.Expression.{Grammar}
use Rattle.base_language.specs.Language.FurthestFailure.{furthest}
use Rattle.base_language.specs.Language.Meaning.{Does, Task}
use Rattle.base_language.specs.Language.State.{Classes, Outcome, State}
use Rattle.matcher_code.specs.Failures.{Failures, both, no_failure, unnamed}
use Rattle.matcher_code.specs.declared.state.Places.{Places}
use Rattle.matcher_code.specs.Laid.{IsSilent, IsSilentUnless}
use Rattle.matcher_code.specs.Steps.{one_place}

-- two that record nothing, and three; and a negation
pub two_silent : {f h : Places → Failures} → ((place : Places) → f place ≡ no_failure) → ((place : Places) → h place ≡ no_failure)
    → (place : Places) → both (f place) (h place) ≡ no_failure
two_silent x y place = ap₂ both (x place) (y place)

pub three_silent : {f h i : Places → Failures} → ((place : Places) → f place ≡ no_failure) → ((place : Places) → h place ≡ no_failure)
    → ((place : Places) → i place ≡ no_failure) → (place : Places) → both (f place) (both (h place) (i place)) ≡ no_failure
three_silent x y z place = ap₂ both (x place) (ap₂ both (y place) (z place))

pub negated_silent : {f : Places → Failures} → ((place : Places) → f place ≡ no_failure) → (place : Places) → unnamed (f place) ≡ no_failure
negated_silent x place = ap unnamed (x place)

module _ {g : Grammar} {classes : Classes} {k : Task} {s : State} {o : Outcome} (d : Does g classes k s o) (h : IsSilent d) where
  pub silent_place : furthest d ≡ 0
  silent_place = ap (λ f. f.furthest) (h (one_place 0))

  pub silent_unless : (noted : Bool) → IsSilentUnless noted d
  silent_unless noted e place = h place

pub neither : (a b : Bool) → (a || b) ≡ false → (a ≡ false) × (b ≡ false)
neither true b h = cc
neither false b h = (refl, h)

-- two parts, whose failures are noted or not, and three
pub two_unless : (a b : Bool) {f h : Places → Failures} → (a ≡ false → (place : Places) → f place ≡ no_failure) → (b ≡ false → (place : Places) → h place ≡ no_failure)
    → (a || b) ≡ false → (place : Places) → both (f place) (h place) ≡ no_failure
two_unless a b x y e = let n = neither a b e in two_silent (x n.0) (y n.1)

pub three_unless : (a b : Bool) {f h i : Places → Failures} → (a ≡ false → (place : Places) → f place ≡ no_failure) → (a ≡ false → (place : Places) → h place ≡ no_failure)
    → (b ≡ false → (place : Places) → i place ≡ no_failure) → (a || b) ≡ false → (place : Places) → both (f place) (both (h place) (i place)) ≡ no_failure
three_unless a b x y z e = let n = neither a b e in three_silent (x n.0) (y n.0) (z n.1)

-- The reading of a node, from those of its operands.
use Rattle.std.proofs.Common.{◌≡◌, ℕ, zero, suc, refl, ◌∷◌, [], ◌++◌, replicate, sym, ◌∙◌, ap, ap₂, Bool, true, not, ◌||◌, List, Some, false, Result, Ok, Err, Option, None}
use Rattle.std.specs.Prelude.{IfOk}
use Rattle.front_stack_domain.specs.Reading as says
use Rattle.front_stack_domain.specs.Reading.{anything, walk, walked, is_single, Copy, Required, Optional, Endless}
use Rattle.front_stack_domain.specs.Walks.{ended}
use Rattle.front_stack_domain.specs.Stack.{AbstractStack}
use Rattle.front_stack_loops.specs.Table.{call_reading, copies}
use Rattle.front_stack_loops.specs.Memory.{Meaning}

pub where_ok : {X E : Type 0} {P Q : X → Type 0} (r : Result X E) → ((x : X) → P x → Q x) → IfOk r P → IfOk r Q
where_ok (Ok x) f h = f x h
where_ok (Err e) f h = h

pub ended_value : (limit : ℕ) (step : AbstractStack → says.Reading) (skips : Bool) (a : AbstractStack) (cs : List Copy) (alone : Bool) (w : says.Walk)
    → w ≡ walk limit step cs (record { here = Some a; failing = false; still = true }) → alone ≡ (not skips || is_single cs) → ended a alone w ≡ walked limit step skips a cs
ended_value limit step skips a cs alone w e h = ap₂ (λ b v. ended a b v) h e

-- turns without end are never alone
after_one : (c : Copy) (o : ℕ) → is_single (c ∷ (replicate o Optional ++ Endless ∷ [])) ≡ false
after_one c zero = refl
after_one c (suc o) = refl

endless_not_single : (r o : ℕ) → is_single (copies r o true) ≡ false
endless_not_single zero zero = refl
endless_not_single zero (suc o) = after_one Optional o
endless_not_single (suc zero) o = after_one Required o
endless_not_single (suc (suc r)) o = refl

pub not_alone : (skips e : Bool) (r o : ℕ) → skips ≡ true → e ≡ true → not e ≡ (not skips || is_single (copies r o e))
not_alone true true r o h k = sym (endless_not_single r o)
not_alone true false r o h k = cc
not_alone false e r o h k = cc

-- a call that isn't followed
pub not_followed : (meaning : Meaning) (a : AbstractStack) (q p : Option ℕ) → p ≡ q → p ≡ None → anything ≡ call_reading meaning q a
not_followed meaning a q p e n = sym (ap (λ o. call_reading meaning o a) (sym e ∙ n))

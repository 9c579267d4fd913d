-- One more that stands around an operand, innermost, and one less.
use Rattle.std.proofs.Common.{◌≡◌, ℕ, ◌+◌, ◌≤◌, ◌<◌, List, [], ◌∷◌, ◌++◌, refl, sym, ap, ◌∙◌, subst, arith}
use Rattle.base_ast.specs.Rebuilding.{meaning_of, filled, work_of, waiting, GoesOn, AreReady}
use Rattle.base_ast.specs.declared.rebuilt.Step.{Step}
use Rattle.base_ast.specs.declared.rebuilt.Step.TheVariants as is

pub filled-last : {A M : Type 0} (fills : A → M → M) (us : List A) (a : A) (m : M) → filled fills (us ++ (a ∷ [])) m ≡ filled fills us (fills a m)
filled-last fills [] a m = refl
filled-last fills (b ∷ us) a m = ap (fills b) (filled-last fills us a m)

pub waiting-last : {A : Type 0} (waits : A → ℕ) (us : List A) (a : A) → waiting waits (us ++ (a ∷ [])) ≡ waiting waits us + waits a
waiting-last waits [] a = omega arith
waiting-last waits (b ∷ us) a = let rest = waiting-last waits us a in omega arith

ready_more : {A : Type 0} (is_ready : A → Type 0) (us : List A) (a : A) → AreReady is_ready us → is_ready a → AreReady is_ready (us ++ (a ∷ []))
ready_more is_ready [] a r h = (h, tt)
ready_more is_ready (b ∷ us) a r h = (r.0, ready_more is_ready us a r.1 h)

ready_less : {A : Type 0} (is_ready : A → Type 0) (us : List A) (a : A) → AreReady is_ready (us ++ (a ∷ [])) → AreReady is_ready us × is_ready a
ready_less is_ready [] a r = (tt, r.0)
ready_less is_ready (b ∷ us) a r = let rest = ready_less is_ready us a r.1 in ((r.0, rest.0), rest.1)

module _ {S A T M : Type 0} (says : S → M) (made : T → M) (fills : A → M → M) where
  -- an operand is gone into
  pub same_inside : (step next : Step S A T) (os ns : List A) (a : A) (s : S) (whole : M) → step ≡ is.Inside a s → ns ≡ os ++ (a ∷ []) → meaning_of says made fills next ≡ says s
      → filled fills os (meaning_of says made fills step) ≡ whole → filled fills ns (meaning_of says made fills next) ≡ whole
  same_inside step next os ns a s whole h i j k =
      ap (λ x. filled fills x (meaning_of says made fills next)) i
      ∙ (filled-last fills os a (meaning_of says made fills next)
      ∙ (ap (λ m. filled fills os (fills a m)) j
      ∙ (sym (ap (λ x. filled fills os (meaning_of says made fills x)) h) ∙ k)))

  -- an operand is made
  pub same_outside : (step next : Step S A T) (os ns : List A) (a : A) (t : T) (whole : M) → step ≡ is.Made t → os ≡ ns ++ (a ∷ []) → meaning_of says made fills next ≡ fills a (made t)
      → filled fills os (meaning_of says made fills step) ≡ whole → filled fills ns (meaning_of says made fills next) ≡ whole
  same_outside step next os ns a t whole h i j k =
      ap (filled fills ns) j
      ∙ (sym (filled-last fills ns a (made t))
      ∙ (sym (ap (λ x. filled fills x (made t)) i)
      ∙ (sym (ap (λ x. filled fills os (meaning_of says made fills x)) h) ∙ k)))

module _ {S A T : Type 0} (size : S → ℕ) (waits : A → ℕ) where
  pub less_inside : (step next : Step S A T) (os ns : List A) (a : A) (s : S) → step ≡ is.Inside a s → ns ≡ os ++ (a ∷ []) → work_of size waits next ≤ size s
      → work_of size waits next + waiting waits ns < work_of size waits step + waiting waits os
  less_inside step next os ns a s h i j =
      let all : waiting waits ns ≡ waiting waits os + waits a = ap (waiting waits) i ∙ waiting-last waits os a in
      let work : work_of size waits step ≡ 1 + (waits a + size s) = ap (work_of size waits) h in
      omega arith

  pub less_outside : (step next : Step S A T) (os ns : List A) (a : A) (t : T) → step ≡ is.Made t → os ≡ ns ++ (a ∷ []) → work_of size waits next < waits a
      → work_of size waits next + waiting waits ns < work_of size waits step + waiting waits os
  less_outside step next os ns a t h i j =
      let all : waiting waits os ≡ waiting waits ns + waits a = ap (waiting waits) i ∙ waiting-last waits ns a in
      omega arith

module _ {S A T : Type 0} (is_right : S → Type 0) (is_ready : A → Type 0) where
  pub record AllReady (step : Step S A T) (os : List A) : Type 0 where
    pub at_hand : GoesOn is_right is_ready step
    pub outside : AreReady is_ready os

  pub ready_inside : (step next : Step S A T) (os ns : List A) (a : A) (s : S) → step ≡ is.Inside a s → ns ≡ os ++ (a ∷ []) → AllReady step os → GoesOn is_right is_ready next → AllReady next ns
  ready_inside step next os ns a s h i r n =
      let at : is_ready a × is_right s = subst (GoesOn is_right is_ready) h r.at_hand in
      record { at_hand = n; outside = subst (AreReady is_ready) (sym i) (ready_more is_ready os a r.outside at.0) }

  pub right_inside : (step : Step S A T) (os : List A) (a : A) (s : S) → step ≡ is.Inside a s → AllReady step os → is_right s
  right_inside step os a s h r = let at : is_ready a × is_right s = subst (GoesOn is_right is_ready) h r.at_hand in at.1

  pub ready_outside : (step next : Step S A T) (os ns : List A) (a : A) → os ≡ ns ++ (a ∷ []) → AllReady step os → GoesOn is_right is_ready next → AllReady next ns
  ready_outside step next os ns a i r n =
      record { at_hand = n; outside = (ready_less is_ready ns a (subst (AreReady is_ready) i r.outside)).0 }

  pub last_ready : (step : Step S A T) (os ns : List A) (a : A) → os ≡ ns ++ (a ∷ []) → AllReady step os → is_ready a
  last_ready step os ns a i r = (ready_less is_ready ns a (subst (AreReady is_ready) i r.outside)).1

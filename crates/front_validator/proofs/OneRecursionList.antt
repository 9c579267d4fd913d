-- What the walks that seek left recursion come to is one: so what is found of it is one list.
use Rattle.std.proofs.Common.{◌≡◌, ℕ, List, [], ◌∷◌, ◌++◌, Option, Some, None, slice_get, refl, sym, ◌∙◌, ap, subst}
use Rattle.std.specs.List.{Contains}
use Rattle.base_language.specs.Language.Text.{Text}
use Rattle.base_language.specs.Language.Expression.{Expression, Ident, last_place}
use Rattle.base_language.proofs.Basics.{one_item}
use Rattle.front_spanned.specs.Spanned.{Span, Spanned, Leaf, One, Two, Unary, Seq, Choice, SpannedRule}
use Rattle.front_validator.specs.Findings.{Finding, found_at, Reports, reports_none, reports_at, OfRecursion, recursive, not_recursive, hidden}
use Rattle.front_validator.specs.LeftRecursion.{Closed, IsNoName, said, Means, Passes, trail_message, Walks, walks_over, walks_closing, walks_outside, walks_again, walks_into, walks_inside, walks_first, walks_second, walks_neither, walks_other}

some_none : {A : Type 0} {o : Option A} {a : A} → o ≡ Some a → o ≡ None → ⊥
some_none e f = let h = sym e ∙ f in cc

module _ (rules : List SpannedRule) (start : ℕ) where
  -- 1. what a walk over each form comes to, and by what
  data AtName (c : List ℕ) (n : Text) (s : Span) (o : Option Closed) : Type 0 where
    at_start : Means rules n start → o ≡ Some (record { trail = c; call = s }) → AtName c n s o
    at_nothing : last_place (said rules) n ≡ None → o ≡ None → AtName c n s o
    at_entered : (k : ℕ) → Means rules n k → (k ≡ start → ⊥) → Contains c k → o ≡ None → AtName c n s o
    at_rule : (k : ℕ) (r : SpannedRule) → Means rules n k → (k ≡ start → ⊥) → (Contains c k → ⊥) → slice_get rules k ≡ Some r → Walks rules start (c ++ k ∷ []) r.name r.body o → AtName c n s o

  at_name : {c : List ℕ} {v : Text} {x : Spanned} {o : Option Closed} → Walks rules start c v x o → (n : Text) (s : Span) → x ≡ Leaf s (Ident n) → AtName c n s o
  at_name (walks_over {e = e} h) n s q = let same : e ≡ Ident n = cc in absurd (subst (λ z. IsNoName z) same h)
  at_name (walks_closing {c = c} {n = m} {s = t} h) n s q =
      let a : m ≡ n = cc in let b : t ≡ s = cc in at_start (subst (λ z. Means rules z start) a h) (ap (λ z. Some (record { trail = c; call = z })) b)
  at_name (walks_outside {n = m} h) n s q = let a : m ≡ n = cc in at_nothing (subst (λ z. last_place (said rules) z ≡ None) a h) refl
  at_name (walks_again {n = m} {k = k} h apart d) n s q = let a : m ≡ n = cc in at_entered k (subst (λ z. Means rules z k) a h) apart d refl
  at_name (walks_into {n = m} {k = k} {r = r} h apart out at w) n s q = let a : m ≡ n = cc in at_rule k r (subst (λ z. Means rules z k) a h) apart out at w
  at_name (walks_inside w) n s q = cc
  at_name (walks_first w) n s q = cc
  at_name (walks_second a p b) n s q = cc
  at_name (walks_neither a b) n s q = cc
  at_name (walks_other a b) n s q = cc

  at_no_name : {c : List ℕ} {v : Text} {x : Spanned} {o : Option Closed} → Walks rules start c v x o → (s : Span) (e : Expression) → x ≡ Leaf s e → IsNoName e → o ≡ None
  at_no_name (walks_over h) s e q f = refl
  at_no_name (walks_closing {n = n} h) s e q f = let same : e ≡ Ident n = cc in absurd (subst (λ z. IsNoName z) same f)
  at_no_name (walks_outside h) s e q f = refl
  at_no_name (walks_again h apart d) s e q f = refl
  at_no_name (walks_into {n = n} h apart out at w) s e q f = let same : e ≡ Ident n = cc in absurd (subst (λ z. IsNoName z) same f)
  at_no_name (walks_inside w) s e q f = cc
  at_no_name (walks_first w) s e q f = cc
  at_no_name (walks_second a p b) s e q f = cc
  at_no_name (walks_neither a b) s e q f = cc
  at_no_name (walks_other a b) s e q f = cc

  at_one : {c : List ℕ} {v : Text} {x : Spanned} {o : Option Closed} → Walks rules start c v x o → (s : Span) (f : Unary) (y : Spanned) → x ≡ One s f y → Walks rules start c v y o
  at_one (walks_over h) s f y q = cc
  at_one (walks_closing h) s f y q = cc
  at_one (walks_outside h) s f y q = cc
  at_one (walks_again h apart d) s f y q = cc
  at_one (walks_into h apart out at w) s f y q = cc
  at_one {c} {v} {x} {o} (walks_inside {x = z} w) s f y q = let same : z ≡ y = cc in subst (λ u. Walks rules start c v u o) same w
  at_one (walks_first w) s f y q = cc
  at_one (walks_second a p b) s f y q = cc
  at_one (walks_neither a b) s f y q = cc
  at_one (walks_other a b) s f y q = cc

  data AtSeq (c : List ℕ) (v : Text) (x y : Spanned) (o : Option Closed) : Type 0 where
    by_first : (z : Closed) → Walks rules start c v x (Some z) → o ≡ Some z → AtSeq c v x y o
    by_second : (z : Closed) → Walks rules start c v x None → Passes rules v x → Walks rules start c v y (Some z) → o ≡ Some z → AtSeq c v x y o
    by_neither : Walks rules start c v x None → (Passes rules v x → Walks rules start c v y None) → o ≡ None → AtSeq c v x y o

  at_seq : {c : List ℕ} {v : Text} {x : Spanned} {o : Option Closed} → Walks rules start c v x o → (s : Span) (y z : Spanned) → x ≡ Two s Seq y z → AtSeq c v y z o
  at_seq (walks_over h) s y z q = cc
  at_seq (walks_closing h) s y z q = cc
  at_seq (walks_outside h) s y z q = cc
  at_seq (walks_again h apart d) s y z q = cc
  at_seq (walks_into h apart out at w) s y z q = cc
  at_seq (walks_inside w) s y z q = cc
  at_seq {c} {v} (walks_first {x = a} {z = k} w) s y z q = let e : a ≡ y = cc in by_first k (subst (λ u. Walks rules start c v u (Some k)) e w) refl
  at_seq {c} {v} (walks_second {x = a} {y = b} {z = k} w p u) s y z q =
      let e : a ≡ y = cc in let f : b ≡ z = cc in
      by_second k (subst (λ u. Walks rules start c v u None) e w) (subst (λ u. Passes rules v u) e p) (subst (λ u. Walks rules start c v u (Some k)) f u) refl
  at_seq {c} {v} (walks_neither {x = a} {y = b} w g) s y z q =
      let e : a ≡ y = cc in let f : b ≡ z = cc in
      by_neither (subst (λ u. Walks rules start c v u None) e w) (λ p. subst (λ u. Walks rules start c v u None) f (g (subst (λ u. Passes rules v u) (sym e) p))) refl
  at_seq (walks_other a b) s y z q = cc

  data AtChoice (c : List ℕ) (v : Text) (x y : Spanned) (o : Option Closed) : Type 0 where
    by_left : (z : Closed) → Walks rules start c v x (Some z) → o ≡ Some z → AtChoice c v x y o
    by_right : Walks rules start c v x None → Walks rules start c v y o → AtChoice c v x y o

  at_choice : {c : List ℕ} {v : Text} {x : Spanned} {o : Option Closed} → Walks rules start c v x o → (s : Span) (y z : Spanned) → x ≡ Two s Choice y z → AtChoice c v y z o
  at_choice (walks_over h) s y z q = cc
  at_choice (walks_closing h) s y z q = cc
  at_choice (walks_outside h) s y z q = cc
  at_choice (walks_again h apart d) s y z q = cc
  at_choice (walks_into h apart out at w) s y z q = cc
  at_choice (walks_inside w) s y z q = cc
  at_choice {c} {v} (walks_first {x = a} {z = k} w) s y z q = let e : a ≡ y = cc in by_left k (subst (λ u. Walks rules start c v u (Some k)) e w) refl
  at_choice (walks_second w p u) s y z q = cc
  at_choice (walks_neither w g) s y z q = cc
  at_choice {c} {v} {x} {o} (walks_other {x = a} {y = b} w u) s y z q =
      let e : a ≡ y = cc in let f : b ≡ z = cc in
      by_right (subst (λ u. Walks rules start c v u None) e w) (subst (λ k. Walks rules start c v k o) f u)

  -- 2. a walk comes to one thing
  pub one_walk : {c : List ℕ} {v : Text} {x : Spanned} {o : Option Closed} → Walks rules start c v x o → (p : Option Closed) → Walks rules start c v x p → o ≡ p
  one_walk (walks_over {s = s} {e = e} h) p w = sym (at_no_name w s e refl h)
  one_walk (walks_closing {n = n} {s = s} m) p w = elim (at_name w n s refl) [
    | at_start a e ↦ sym e
    | at_nothing a e ↦ absurd (some_none m a)
    | at_entered k a apart d e ↦ absurd (apart (one_item a m))
    | at_rule k r a apart out at u ↦ absurd (apart (one_item a m))
  ]
  one_walk (walks_outside {n = n} {s = s} h) p w = elim (at_name w n s refl) [
    | at_start a e ↦ absurd (some_none a h)
    | at_nothing a e ↦ sym e
    | at_entered k a apart d e ↦ sym e
    | at_rule k r a apart out at u ↦ absurd (some_none a h)
  ]
  one_walk {c} (walks_again {n = n} {s = s} {k = j} m away b) p w = elim (at_name w n s refl) [
    | at_start a e ↦ absurd (away (one_item m a))
    | at_nothing a e ↦ sym e
    | at_entered k a apart d e ↦ sym e
    | at_rule k r a apart out at u ↦ absurd (out (subst (λ z. Contains c z) (one_item m a) b))
  ]
  one_walk {c} {v} {x} {o} (walks_into {n = n} {s = s} {k = j} {r = q} m away far here d) p w = elim (at_name w n s refl) [
    | at_start a e ↦ absurd (away (one_item m a))
    | at_nothing a e ↦ absurd (some_none m a)
    | at_entered k a apart b e ↦ absurd (far (subst (λ z. Contains c z) (one_item a m) b))
    | at_rule k r a apart out at u ↦ (let place : k ≡ j = one_item a m in
        let rule : r ≡ q = one_item (subst (λ z. slice_get rules z ≡ Some r) place at) here in
        one_walk d p (subst (λ z. Walks rules start (c ++ j ∷ []) z.name z.body p) rule (subst (λ z. Walks rules start (c ++ z ∷ []) r.name r.body p) place u)))
  ]
  one_walk (walks_inside {s = s} {f = f} {x = y} d) p w = one_walk d p (at_one w s f y refl)
  one_walk (walks_first {s = s} {f = Seq} {x = a} {y = b} d) p w = elim (at_seq w s a b refl) [
    | by_first z u e ↦ one_walk d (Some z) u ∙ sym e
    | by_second z u h t e ↦ absurd (some_none refl (one_walk d None u))
    | by_neither u h e ↦ absurd (some_none refl (one_walk d None u))
  ]
  one_walk (walks_first {s = s} {f = Choice} {x = a} {y = b} d) p w = elim (at_choice w s a b refl) [
    | by_left z u e ↦ one_walk d (Some z) u ∙ sym e
    | by_right u t ↦ absurd (some_none refl (one_walk d None u))
  ]
  one_walk (walks_second {s = s} {x = a} {y = b} d h t) p w = elim (at_seq w s a b refl) [
    | by_first z u e ↦ absurd (some_none refl (sym (one_walk d (Some z) u)))
    | by_second z u i l e ↦ one_walk t (Some z) l ∙ sym e
    | by_neither u g e ↦ absurd (some_none refl (one_walk t None (g h)))
  ]
  one_walk (walks_neither {s = s} {x = a} {y = b} d g) p w = elim (at_seq w s a b refl) [
    | by_first z u e ↦ absurd (some_none refl (sym (one_walk d (Some z) u)))
    | by_second z u h l e ↦ absurd (some_none refl (sym (one_walk (g h) (Some z) l)))
    | by_neither u h e ↦ sym e
  ]
  one_walk (walks_other {s = s} {x = a} {y = b} d t) p w = elim (at_choice w s a b refl) [
    | by_left z u e ↦ absurd (some_none refl (sym (one_walk d (Some z) u)))
    | by_right u l ↦ one_walk t p l
  ]

-- 3. of each rule one list is found, and of all of them
same_found : {rules : List SpannedRule} {k : ℕ} {fs gs : List Finding} → OfRecursion rules k fs → OfRecursion rules k gs → fs ≡ gs
same_found {rules} (recursive {k = k} {r = r} {closed = z} at m w) (recursive {r = q} {closed = y} here n u) =
    let rule : q ≡ r = one_item here at in
    let one : z ≡ y = one_item refl (one_walk rules k w (Some y) (subst (λ t. Walks rules k (k ∷ []) t.name t.body (Some y)) rule u)) in
    ap (λ t. found_at t.call (trail_message rules r t) ∷ []) one ∙ ap (λ t. found_at y.call (trail_message rules t y) ∷ []) (sym rule)
same_found {rules} (recursive {k = k} {r = r} {closed = z} at m w) (not_recursive {r = q} here n u) =
    absurd (some_none refl (one_walk rules k w None (subst (λ t. Walks rules k (k ∷ []) t.name t.body None) (one_item here at) u)))
same_found {rules} (recursive {k = k} {r = r} at m w) (hidden {r = q} here out) = absurd (out (subst (λ t. Means rules t.name k) (one_item at here) m))
same_found {rules} (not_recursive {k = k} {r = r} at m w) (recursive {r = q} {closed = y} here n u) =
    absurd (some_none refl (sym (one_walk rules k w (Some y) (subst (λ t. Walks rules k (k ∷ []) t.name t.body (Some y)) (one_item here at) u))))
same_found (not_recursive at m w) (not_recursive here n u) = refl
same_found (not_recursive at m w) (hidden here out) = refl
same_found {rules} (hidden {k = k} {r = r} at out) (recursive {r = q} here n u) = absurd (out (subst (λ t. Means rules t.name k) (one_item here at) n))
same_found (hidden at out) (not_recursive here n u) = refl
same_found (hidden at out) (hidden here far) = refl

pub one_list : (rules : List SpannedRule) (ks : List ℕ) (found other : List Finding) → Reports (OfRecursion rules) ks found → Reports (OfRecursion rules) ks other → found ≡ other
one_list rules ks found other a b = go a b
  where
    go : {ls : List ℕ} {fs gs : List Finding} → Reports (OfRecursion rules) ls fs → Reports (OfRecursion rules) ls gs → fs ≡ gs
    go reports_none reports_none = refl
    go (reports_at {fs = fs} {gs = gs} d t) (reports_at {fs = hs} {gs = is} e u) = ap (λ z. z ++ gs) (same_found d e) ∙ ap (λ z. hs ++ z) (go t u)

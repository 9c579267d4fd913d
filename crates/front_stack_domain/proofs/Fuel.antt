-- How deep calls are followed does not matter, once it is as deep as there are rules.
use Rattle.std.proofs.Common.{◌≡◌, ◌⊎◌, inl, inr, ℕ, zero, suc, ◌≤◌, List, [], ◌∷◌, replicate, length, map, Bool, true, false, if◌then◌else◌, Option, Some, None, refl, sym, ◌∙◌, ap, ap₂, subst, bytes_eq, arith}
use Rattle.std.proofs.lemmas.List.{length-map}
use Rattle.std.proofs.lemmas.Slice.Eq.{bytes_eq-Decides}
use mathlib.Core.Path.{fun_ext}
use Rattle.base_language.specs.Language.Text.{Text}
use Rattle.base_language.specs.Language.Expression.{Expression, Str, Insens, Range, Ident, PeekSlice, PosPred, NegPred, Seq, Choice, Opt, Rep, RepOnce, RepExact, RepMin, RepMax, RepMinMax, Skip, Push, RestoreOnErr, Rule, Grammar, or_else, rule_of, Part, whole, of_pos_pred, of_neg_pred, of_seq_left, of_seq_right, of_choice_left, of_choice_right, of_opt, of_rep, of_rep_once, of_rep_exact, of_rep_min, of_rep_max, of_rep_min_max, of_push, of_restore, PushLiteral, NodeTag, of_tag}
use Rattle.front_stack_domain.specs.Stack.{In, AbstractStack, entry, failed}
use Rattle.front_stack_domain.specs.Recursion.{ReachesByCalls, by_call, by_calls, LeavesOutRecursion}
use Rattle.front_spanned.specs.Erasure.{without_spans}
use Rattle.front_spanned.specs.Spanned.{Spanned, Span}
use Rattle.front_stack_domain.specs.Reported.{ReportedIn, ReportedToDepth}
use Rattle.front_stack_domain.specs.Reports.{skips_in, reading_to_depth, reading_in}
use Rattle.front_stack_domain.specs.Reading.{Reading, anything, from, ahead_reading, not_ahead_reading, seq_reading, choice_reading, opt_reading, pushed_reading, Copy, Required, Optional, Endless, at_least_copies, from_to_copies, walked, reading, rule_reading, name_reading}

module _ (limit : ℕ) (skips : Bool) (named other : Text → AbstractStack → Reading) where
  abbrev Same : Expression → Type 0
  Same e = reading limit skips named e ≡ reading limit skips other e

  abbrev Agree : Expression → Type 0
  Agree e = (n : Text) → Part e (Ident n) → named n ≡ other n

  abbrev on : List Copy → (AbstractStack → Reading) → AbstractStack → Reading
  on cs f a = walked limit f skips a cs

  over : (e : Expression) (cs : List Copy) → Same e → on cs (λ b. reading limit skips named e b) ≡ on cs (λ b. reading limit skips other e b)
  over e cs h = let f : (AbstractStack → Reading) → AbstractStack → Reading = λ f a. walked limit f skips a cs in ap f h

  -- readings by names that agree are the same
  pub reading_same : (e : Expression) → Agree e → Same e
  reading_same (Str t) k = refl
  reading_same (Insens t) k = refl
  reading_same (Range b c) k = refl
  reading_same (Ident n) k = k n whole
  reading_same (PeekSlice i j) k = refl
  reading_same (PosPred e) k = let f : (AbstractStack → Reading) → AbstractStack → Reading = λ f a. ahead_reading a (f a) in ap f (reading_same e (λ n p. k n (of_pos_pred p)))
  reading_same (NegPred e) k = let f : (AbstractStack → Reading) → AbstractStack → Reading = λ f a. not_ahead_reading a (f a) in ap f (reading_same e (λ n p. k n (of_neg_pred p)))
  reading_same (Seq d e) k =
      let f : (AbstractStack → Reading) → (AbstractStack → Reading) → AbstractStack → Reading = λ f h a. seq_reading skips a (f a) (from (f a).ok h) in
      ap₂ f (reading_same d (λ n p. k n (of_seq_left p))) (reading_same e (λ n p. k n (of_seq_right p)))
  reading_same (Choice d e) k =
      let f : (AbstractStack → Reading) → (AbstractStack → Reading) → AbstractStack → Reading = λ f h a. choice_reading a (f a) (from (failed (f a).err a) h) in
      ap₂ f (reading_same d (λ n p. k n (of_choice_left p))) (reading_same e (λ n p. k n (of_choice_right p)))
  reading_same (Opt e) k = let f : (AbstractStack → Reading) → AbstractStack → Reading = λ f a. opt_reading a (f a) in ap f (reading_same e (λ n p. k n (of_opt p)))
  reading_same (Rep e) k = over e (Endless ∷ []) (reading_same e (λ n p. k n (of_rep p)))
  reading_same (RepOnce e) k = over e (Required ∷ Endless ∷ []) (reading_same e (λ n p. k n (of_rep_once p)))
  reading_same (RepExact e i) k = over e (replicate i Required) (reading_same e (λ n p. k n (of_rep_exact p)))
  reading_same (RepMin e i) k = over e (at_least_copies i) (reading_same e (λ n p. k n (of_rep_min p)))
  reading_same (RepMax e i) k = over e (replicate i Optional) (reading_same e (λ n p. k n (of_rep_max p)))
  reading_same (RepMinMax e i j) k = over e (from_to_copies i j) (reading_same e (λ n p. k n (of_rep_min_max p)))
  reading_same (Skip ts) k = refl
  reading_same (Push e) k = let f : (AbstractStack → Reading) → AbstractStack → Reading = λ f a. pushed_reading (f a) in ap f (reading_same e (λ n p. k n (of_push p)))
  reading_same (PushLiteral t) k = refl
  reading_same (NodeTag e t) k = reading_same e (λ n p. k n (of_tag p))
  reading_same (RestoreOnErr e) k = reading_same e (λ n p. k n (of_restore p))

-- a list without one of its members
abbrev minus : (n : Text) (ns : List Text) → In n ns → List Text
minus n [] i = absurd i
minus n (k ∷ ns) (inl e) = ns
minus n (k ∷ ns) (inr i) = k ∷ minus n ns i

shorter : (n : Text) (ns : List Text) (i : In n ns) → length ns ≡ suc (length (minus n ns i))
shorter n [] i = absurd i
shorter n (k ∷ ns) (inl e) = refl
shorter n (k ∷ ns) (inr i) = ap suc (shorter n ns i)

other_in : (j n : Text) (ns : List Text) → In j ns → (i : In n ns) → (j ≡ n) ⊎ In j (minus n ns i)
other_in j n [] h i = absurd i
other_in j n (k ∷ ns) (inl e) (inl f) = inl (e ∙ sym f)
other_in j n (k ∷ ns) (inl e) (inr i) = inr (inl e)
other_in j n (k ∷ ns) (inr h) (inl f) = inr h
other_in j n (k ∷ ns) (inr h) (inr i) = elim (other_in j n ns h i) [ inl e ↦ inl e | inr l ↦ inr (inr l) ]

abbrev names_of : Grammar → List Text
names_of g = map (λ (r : Rule). r.name) g

name_in : (g : Grammar) (n : Text) (q : Rule) → rule_of g n ≡ Some q → In n (names_of g)
name_in [] n q h = cc
name_in (r ∷ g) n q h = go (rule_of g n) refl h (name_in g n q)
  where
    here : (b : Bool) → bytes_eq r.name n ≡ b → (if b then Some r else None) ≡ Some q → In n (names_of (r ∷ g))
    here true e h = inl (sym ((bytes_eq-Decides r.name n).0 e))
    here false e h = cc

    go : (o : Option Rule) → rule_of g n ≡ o → or_else o (if bytes_eq r.name n then Some r else None) ≡ Some q → (rule_of g n ≡ Some q → In n (names_of g)) → In n (names_of (r ∷ g))
    go (Some p) e h i = inr (i (e ∙ h))
    go None e h i = here (bytes_eq r.name n) refl h

module _ (recursive : Text → Bool) (g : Grammar) where
  -- the calls that are followed from n nest no more than k deep
  data Shallow : ℕ → Text → Type 0 where
    left_out : {k : ℕ} {n : Text} → recursive n ≡ true → Shallow k n
    no_rule : {k : ℕ} {n : Text} → rule_of g n ≡ None → Shallow k n
    shallow : {k : ℕ} {n : Text} → ((r : Rule) (c : Text) → rule_of g n ≡ Some r → Part r.body (Ident c) → Shallow k c) → Shallow (suc k) n

  module _ (limit : ℕ) (skips : Bool) where
    abbrev At : ℕ → Text → AbstractStack → Reading
    At k n a = name_reading limit skips recursive g k n a

    abbrev Body : ℕ → Expression → AbstractStack → Reading
    Body zero e a = anything
    Body (suc k) e a = reading limit skips (name_reading limit skips recursive g k) e a

    as_rule : (k : ℕ) (n : Text) (a : AbstractStack) → At k n a ≡ rule_reading limit skips recursive g n (rule_of g n) (Body k) a
    as_rule zero n a = refl
    as_rule (suc k) n a = refl

    not_followed : (i j : ℕ) (n : Text) → recursive n ≡ true → At i n ≡ At j n
    not_followed i j n h = fun_ext (λ a. as_rule i n a ∙ go (rule_of g n) a ∙ sym (as_rule j n a))
      where
        go : (q : Option Rule) (a : AbstractStack) → rule_reading limit skips recursive g n q (Body i) a ≡ rule_reading limit skips recursive g n q (Body j) a
        go None a = refl
        go (Some r) a = subst (λ b. (if b then anything else Body i r.body a) ≡ (if b then anything else Body j r.body a)) (sym h) refl

    not_found : (i j : ℕ) (n : Text) → rule_of g n ≡ None → At i n ≡ At j n
    not_found i j n h = fun_ext (λ a. as_rule i n a ∙ go (rule_of g n) h a ∙ sym (as_rule j n a))
      where
        go : (q : Option Rule) → q ≡ None → (a : AbstractStack) → rule_reading limit skips recursive g n q (Body i) a ≡ rule_reading limit skips recursive g n q (Body j) a
        go None h a = refl
        go (Some r) h a = cc

    deep_enough : {k : ℕ} {n : Text} → Shallow k n → (i j : ℕ) → k ≤ i → k ≤ j → At i n ≡ At j n
    deep_enough {n = n} (left_out h) i j p q = not_followed i j n h
    deep_enough {n = n} (no_rule h) i j p q = not_found i j n h
    deep_enough (shallow f) zero j p q = absurd (omega arith)
    deep_enough (shallow f) (suc i) zero p q = absurd (omega arith)
    deep_enough {n = n} (shallow {k = k} f) (suc i) (suc j) p q =
        fun_ext (λ a. go (λ r c e l. deep_enough (f r c e l) i j (omega arith) (omega arith)) (rule_of g n) refl a)
      where
        same : (r : Rule) → ((c : Text) → Part r.body (Ident c) → At i c ≡ At j c) → (a : AbstractStack) → Body (suc i) r.body a ≡ Body (suc j) r.body a
        same r q a = ap (λ f. f a) (reading_same limit skips (At i) (At j) r.body q)

        go : ((r : Rule) (c : Text) → rule_of g n ≡ Some r → Part r.body (Ident c) → At i c ≡ At j c)
            → (q : Option Rule) → rule_of g n ≡ q → (a : AbstractStack) → rule_reading limit skips recursive g n q (Body (suc i)) a ≡ rule_reading limit skips recursive g n q (Body (suc j)) a
        go d None e a = refl
        go d (Some r) e a = ap (λ x. if recursive n then anything else x) (same r (λ c p. d r c e p) a)

  reaches_on : {j n c : Text} {r : Rule} → ReachesByCalls g j n → rule_of g n ≡ Some r → Part r.body (Ident c) → ReachesByCalls g j c
  reaches_on (by_call e p) f q = by_calls e p (by_call f q)
  reaches_on (by_calls e p h) f q = by_calls e p (reaches_on h f q)

  module _ (leaves_out : LeavesOutRecursion recursive g) where
    -- each rule is left to be called, or calls led from it here
    abbrev Passed : List Text → Text → Type 0
    Passed ns n = (j : Text) (r : Rule) → rule_of g j ≡ Some r → In j ns ⊎ ReachesByCalls g j n

    not_yet : (ns : List Text) (n : Text) → recursive n ≡ false → In n ns ⊎ ReachesByCalls g n n → In n ns
    not_yet ns n h (inl i) = i
    not_yet ns n h (inr l) = let e = leaves_out n l in cc

    passed_on : (ns : List Text) (n c : Text) (r : Rule) (i : In n ns) → rule_of g n ≡ Some r → Part r.body (Ident c) → Passed ns n → Passed (minus n ns i) c
    passed_on ns n c r i e p v j q f = elim (v j q f) [ inl h ↦ go (other_in j n ns h i) | inr l ↦ inr (reaches_on l e p) ]
      where
        go : (j ≡ n) ⊎ In j (minus n ns i) → In j (minus n ns i) ⊎ ReachesByCalls g j c
        go (inl s) = inr (subst (λ x. ReachesByCalls g x c) (sym s) (by_call e p))
        go (inr l) = inl l

    shallow_from : (k : ℕ) (ns : List Text) → length ns ≤ k → (n : Text) → Passed ns n → Shallow k n
    shallow_from zero ns b n v = go (recursive n) refl (rule_of g n) refl
      where
        go : (s : Bool) → recursive n ≡ s → (o : Option Rule) → rule_of g n ≡ o → Shallow zero n
        go true h o e = left_out h
        go false h None e = no_rule e
        go false h (Some r) e = let l = shorter n ns (not_yet ns n h (v n r e)) in absurd (omega arith)
    shallow_from (suc k) ns b n v =
        go (recursive n) refl (rule_of g n) refl
        (λ (i : In n ns) (r : Rule) (c : Text) (e : rule_of g n ≡ Some r) (p : Part r.body (Ident c)).
        let l = shorter n ns i in shallow_from k (minus n ns i) (omega arith) c (passed_on ns n c r i e p v))
      where
        go : (s : Bool) → recursive n ≡ s → (o : Option Rule) → rule_of g n ≡ o
            → (In n ns → (r : Rule) (c : Text) → rule_of g n ≡ Some r → Part r.body (Ident c) → Shallow k c) → Shallow (suc k) n
        go true h o e f = left_out h
        go false h None e f = no_rule e
        go false h (Some q) x f = shallow (f (not_yet ns n h (v n q x)))

    all_shallow : (n : Text) → Shallow (length g) n
    all_shallow n = let e = length-map g (λ (r : Rule). r.name) in shallow_from (length g) (names_of g) (omega arith) n (λ j r h. inl (name_in g j r h))

    -- as deep as there are rules is deep enough
    pub depths_agree : (limit depth : ℕ) (e : Expression) (a : AbstractStack) → length g ≤ depth
        → reading_to_depth depth limit recursive g e a ≡ reading_in limit recursive g e a
    depths_agree limit depth e a h =
        let skips = skips_in g in
        ap (λ f. f a) (reading_same limit skips (At limit skips depth) (At limit skips (length g)) e
        (λ n p. deep_enough limit skips (all_shallow n) depth (length g) h (omega arith)))

    -- so bodies have the same reports
    pub reports_agree : (limit depth other turns : ℕ) → length g ≤ depth → length g ≤ other → (nullable : Spanned → Bool) (x : Spanned) (ts : List Span)
        → ReportedToDepth depth limit turns recursive g nullable x ts → ReportedToDepth other limit turns recursive g nullable x ts
    reports_agree limit depth other turns h i nullable x ts r =
        let same : (λ (y : Spanned). reading_to_depth depth limit recursive g (without_spans y)) ≡ (λ y. reading_to_depth other limit recursive g (without_spans y)) =
        fun_ext (λ y. fun_ext (λ a. depths_agree limit depth (without_spans y) a h ∙ sym (depths_agree limit other (without_spans y) a i))) in
        let P : (Spanned → AbstractStack → Reading) → Type 0 = λ read. ReportedIn limit turns read nullable (λ a. a ≡ entry) x ts in
        subst P same r

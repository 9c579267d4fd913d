-- Where what is walked over holds no call of the start, and calls only rules that hold none, the walk comes to none.
use Rattle.std.proofs.Common.{◌≡◌, ◌⊎◌, inl, inr, ℕ, zero, suc, ◌<◌, ◌≤◌, List, [], ◌∷◌, ◌++◌, Option, Some, None, Bool, true, false, if◌then◌else◌, bytes_eq, slice_get, length, refl, sym, ◌∙◌, ap, subst, arith}
use Rattle.std.specs.List.{Contains}
use Rattle.std.proofs.Math.ListN.{set, length-set}
use Rattle.std.proofs.lemmas.List.Elements.{Contains-append_left, Contains-append_right, Contains-append_cases}
use Rattle.std.proofs.lemmas.Option.{slice_get_within}
use Rattle.std.proofs.lemmas.Slice.Eq.{bytes_eq-Decides}
use Rattle.base_language.specs.Language.Text.{Text}
use Rattle.base_language.specs.Language.Expression.{Expression, Str, Insens, Range, Ident, PeekSlice, PosPred, NegPred, Seq as plain_seq, Choice as plain_choice, Opt, Rep, RepOnce, RepExact, RepMin, RepMax, RepMinMax, Skip, Push, RestoreOnErr, PushLiteral, NodeTag, last_place}
use Rattle.front_spanned.specs.Erasure.{without_spans, round}
use Rattle.front_spanned.specs.Spanned as spanned
use Rattle.front_spanned.specs.Spanned.{Spanned, Leaf, One, Two, Unary, Seq, Choice, SpannedRule}
use Rattle.base_graphs.specs.Least.{is_set_at, unset}
use Rattle.front_validator.specs.LeftRecursion.{IsNoName, said, Means, Walks, walks_over, walks_outside, walks_again, walks_into, walks_inside, walks_neither, walks_other}
use Rattle.front_validator.specs.Walk.{Walked, w_name, w_first, w_second, w_pos_pred, w_neg_pred, w_left, w_right, w_opt, w_rep, w_rep_once, w_rep_exact, w_rep_min, w_rep_max, w_rep_min_max, w_push, w_tag}
use Rattle.base_graphs.proofs.LeastLemmas.{unset_less, set_or_one}

-- 1. flags that say what a trail has
pub record Flags (n : ℕ) (c : List ℕ) (flags : List Bool) : Type 0 where
  pub alike : length flags ≡ n
  pub had : (k : ℕ) → is_set_at flags k ≡ true → Contains c k
  pub has : (k : ℕ) → Contains c k → is_set_at flags k ≡ true

pub set_keeps : (bs : List Bool) (i j : ℕ) → is_set_at bs j ≡ true → is_set_at (set bs i true) j ≡ true
set_keeps [] i j h = h
set_keeps (b ∷ bs) zero zero h = refl
set_keeps (b ∷ bs) zero (suc j) h = h
set_keeps (b ∷ bs) (suc i) zero h = h
set_keeps (b ∷ bs) (suc i) (suc j) h = set_keeps bs i j h

pub set_sets : (bs : List Bool) (i : ℕ) → i < length bs → is_set_at (set bs i true) i ≡ true
set_sets [] i h = absurd (omega arith)
set_sets (b ∷ bs) zero h = refl
set_sets (b ∷ bs) (suc i) h = set_sets bs i (omega arith)

pub alone : (k m : ℕ) → Contains (k ∷ []) m → m ≡ k
alone k m (zero, l, e) = sym e
alone k m (suc i, l, e) = absurd (omega arith)

pub at_end : (c : List ℕ) (k : ℕ) → Contains (c ++ k ∷ []) k
at_end c k = Contains-append_right c (k ∷ []) k (0, omega arith, refl)

pub flags_more : (n : ℕ) (c : List ℕ) (flags : List Bool) (k : ℕ) → k < n → Flags n c flags → Flags n (c ++ k ∷ []) (set flags k true)
flags_more n c flags k l f = record {
  alike = length-set flags k true ∙ f.alike;
  had = λ m h. elim (set_or_one flags k m h) [ inl e ↦ subst (λ z. Contains (c ++ k ∷ []) z) (sym e) (at_end c k) | inr e ↦ Contains-append_left c (k ∷ []) m (f.had m e) ];
  has = λ m h. elim (Contains-append_cases c (k ∷ []) m h) [
    | inl d ↦ set_keeps flags k m (f.has m d)
    | inr d ↦ subst (λ z. is_set_at (set flags k true) z ≡ true) (sym (alone k m d)) (set_sets flags k (let a = f.alike in omega arith))
  ];
}

pub unset_flags : (n : ℕ) → List Bool
unset_flags zero = []
unset_flags (suc n) = false ∷ unset_flags n

length-unset_flags : (n : ℕ) → length (unset_flags n) ≡ n
unfolding unset_flags
length-unset_flags zero = refl
length-unset_flags (suc n) = ap suc (length-unset_flags n)

pub none_set : (n k : ℕ) → is_set_at (unset_flags n) k ≡ true → ⊥
unfolding unset_flags
none_set zero k h = cc
none_set (suc n) zero h = cc
none_set (suc n) (suc k) h = none_set n k h

nothing_in : (k : ℕ) → Contains [] k → ⊥
nothing_in k (i, l, e) = omega arith

pub no_flags : (n : ℕ) → Flags n [] (unset_flags n)
no_flags n = record { alike = length-unset_flags n; had = λ k h. absurd (none_set n k h); has = λ k h. absurd (nothing_in k h) }

-- 2. names
data Meant (rules : List SpannedRule) (n : Text) : Option ℕ → Type 0 where
  none_meant : Meant rules n None
  meant : {k : ℕ} (r : SpannedRule) → slice_get rules k ≡ Some r → r.name ≡ n → Meant rules n (Some k)

next : (q : SpannedRule) (rs : List SpannedRule) (n : Text) (b : Bool) → bytes_eq q.name n ≡ b → (o : Option ℕ) → Meant rs n o → Meant (q ∷ rs) n (elim o [ Some k ↦ Some (suc k) | None ↦ if b then Some 0 else None ])
next q rs n b e o (meant r at name) = meant r at name
next q rs n true e o none_meant = meant q refl ((bytes_eq-Decides q.name n).0 e)
next q rs n false e o none_meant = none_meant

meant_by : (rs : List SpannedRule) (n : Text) → Meant rs n (last_place (said rs) n)
meant_by [] n = none_meant
meant_by (q ∷ rs) n = next q rs n (bytes_eq q.name n) refl (last_place (said rs) n) (meant_by rs n)

-- a name means a rule of that name
pub in_rules : (rules : List SpannedRule) (n : Text) (k : ℕ) → Means rules n k → (r : SpannedRule) × (slice_get rules k ≡ Some r) × (r.name ≡ n)
in_rules rules n k h = go (last_place (said rules) n) h (meant_by rules n)
  where
    go : (o : Option ℕ) → o ≡ Some k → Meant rules n o → (r : SpannedRule) × (slice_get rules k ≡ Some r) × (r.name ≡ n)
    go o e none_meant = cc
    go o e (meant {k = m} r at name) = let same : m ≡ k = cc in (r, subst (λ z. slice_get rules z ≡ Some r) same at, name)

-- 3. what stands round a walked expression is walked
module _ (rules : List SpannedRule) where
  pub walked_round : (v : Text) (f : Unary) {e : Expression} {n : Text} → Walked (said rules) v e n → Walked (said rules) v (round f e) n
  walked_round v spanned.PosPred w = w_pos_pred w
  walked_round v spanned.NegPred w = w_neg_pred w
  walked_round v spanned.Opt w = w_opt w
  walked_round v spanned.Rep w = w_rep w
  walked_round v spanned.RepOnce w = w_rep_once w
  walked_round v (spanned.RepExact n) w = w_rep_exact w
  walked_round v (spanned.RepMin m) w = w_rep_min w
  walked_round v (spanned.RepMax n) w = w_rep_max w
  walked_round v (spanned.RepMinMax m n) w = w_rep_min_max w
  walked_round v spanned.Push w = w_push w
  walked_round v (spanned.Tag t) w = w_tag w

  -- the walk over a part of the body of v comes to a call of the rule at this place
  abbrev pub Calls : Text → Expression → ℕ → Type 0
  Calls v e k = (n : Text) × Walked (said rules) v e n × Means rules n k

  pub data Sort (e : Expression) : Type 0 where
    of_name : (n : Text) → e ≡ Ident n → Sort e
    of_no_name : IsNoName e → Sort e

  pub sort : (e : Expression) → Sort e
  sort (Ident n) = of_name n refl
  sort (Str t) = of_no_name tt
  sort (Insens t) = of_no_name tt
  sort (Range t u) = of_no_name tt
  sort (PeekSlice i j) = of_no_name tt
  sort (PosPred e) = of_no_name tt
  sort (NegPred e) = of_no_name tt
  sort (plain_seq a b) = of_no_name tt
  sort (plain_choice a b) = of_no_name tt
  sort (Opt e) = of_no_name tt
  sort (Rep e) = of_no_name tt
  sort (RepOnce e) = of_no_name tt
  sort (RepExact e n) = of_no_name tt
  sort (RepMin e n) = of_no_name tt
  sort (RepMax e n) = of_no_name tt
  sort (RepMinMax e m n) = of_no_name tt
  sort (Skip ts) = of_no_name tt
  sort (Push e) = of_no_name tt
  sort (PushLiteral t) = of_no_name tt
  sort (NodeTag e t) = of_no_name tt
  sort (RestoreOnErr e) = of_no_name tt

  -- 4. `P`: rules that hold no call of the start, and call only rules of `base` and such rules
  module _ (start : ℕ) (base : List ℕ) (P : ℕ → Type 0) where
    abbrev pub IsFine : Text → Expression → Type 0
    IsFine v e = (k : ℕ) → Calls v e k → (k ≡ start → ⊥) × (Contains base k ⊎ P k)

    module _ (c : List ℕ) (more : (k : ℕ) → Contains base k → Contains c k) (decided : (k : ℕ) → Contains c k ⊎ (Contains c k → ⊥))
        (deeper : (k : ℕ) (r : SpannedRule) → (Contains c k → ⊥) → slice_get rules k ≡ Some r → P k → Walks rules start (c ++ k ∷ []) r.name r.body None) where
      over_call : (v n : Text) (s : spanned.Span) → IsFine v (Ident n) → (o : Option ℕ) → last_place (said rules) n ≡ o → Walks rules start c v (Leaf s (Ident n)) None
      over_call v n s fine None e = walks_outside e
      over_call v n s fine (Some k) e = go (decided k) (fine k (n, w_name, e)) (in_rules rules n k e)
        where
          go : Contains c k ⊎ (Contains c k → ⊥) → (k ≡ start → ⊥) × (Contains base k ⊎ P k) → (r : SpannedRule) × (slice_get rules k ≡ Some r) × (r.name ≡ n) → Walks rules start c v (Leaf s (Ident n)) None
          go (inl h) (apart, p) r = walks_again e apart h
          go (inr out) (apart, inl b) r = absurd (out (more k b))
          go (inr out) (apart, inr p) (r, at, name) = walks_into e apart out at (deeper k r out at p)

      over : (v : Text) (x : Spanned) → IsFine v (without_spans x) → Walks rules start c v x None
      over v (Leaf s e) fine = go (sort e)
        where
          go : Sort e → Walks rules start c v (Leaf s e) None
          go (of_name n h) = subst (λ z. Walks rules start c v (Leaf s z) None) (sym h) (over_call v n s (subst (λ z. IsFine v z) h fine) (last_place (said rules) n) refl)
          go (of_no_name h) = walks_over h
      over v (One s f x) fine = walks_inside (over v x (λ k d. fine k (d.0, walked_round v f d.1, d.2)))
      over v (Two s Seq x y) fine = walks_neither (over v x (λ k d. fine k (d.0, w_first d.1, d.2))) (λ p. over v y (λ k d. fine k (d.0, w_second p d.1, d.2)))
      over v (Two s Choice x y) fine = walks_other (over v x (λ k d. fine k (d.0, w_left d.1, d.2))) (over v y (λ k d. fine k (d.0, w_right d.1, d.2)))

    module _ (closed : (k : ℕ) (r : SpannedRule) → P k → slice_get rules k ≡ Some r → IsFine r.name (without_spans r.body)) where
      decided_by : (c : List ℕ) (flags : List Bool) → Flags (length rules) c flags → (k : ℕ) → Contains c k ⊎ (Contains c k → ⊥)
      decided_by c flags f k = go (is_set_at flags k) refl
        where
          go : (b : Bool) → is_set_at flags k ≡ b → Contains c k ⊎ (Contains c k → ⊥)
          go true h = inl (f.had k h)
          go false h = inr (λ d. let e = sym (f.has k d) ∙ h in cc)

      unset_at : (c : List ℕ) (flags : List Bool) → Flags (length rules) c flags → (k : ℕ) → (Contains c k → ⊥) → is_set_at flags k ≡ false
      unset_at c flags f k out = go (is_set_at flags k) refl
        where
          go : (b : Bool) → is_set_at flags k ≡ b → b ≡ false
          go true h = absurd (out (f.had k h))
          go false h = refl

      less : (flags : List Bool) (c : List ℕ) → Flags (length rules) c flags → (k : ℕ) (r : SpannedRule) → (Contains c k → ⊥) → slice_get rules k ≡ Some r → unset flags ≡ suc (unset (set flags k true))
      less flags c f k r out at = let w = slice_get_within rules k r at in let a = f.alike in unset_less flags k (omega arith) (unset_at c flags f k out)

      pub none_walked : (fuel : ℕ) (flags : List Bool) (c : List ℕ) → Flags (length rules) c flags → unset flags ≤ fuel → ((k : ℕ) → Contains base k → Contains c k)
          → (v : Text) (x : Spanned) → IsFine v (without_spans x) → Walks rules start c v x None
      none_walked zero flags c f l more v x fine = over c more (decided_by c flags f) (λ k r out at p. absurd (let e = less flags c f k r out at in omega arith)) v x fine
      none_walked (suc fuel) flags c f l more v x fine = over c more (decided_by c flags f)
          (λ k r out at p. none_walked fuel (set flags k true) (c ++ k ∷ []) (flags_more (length rules) c flags k (slice_get_within rules k r at) f)
          (let e = less flags c f k r out at in omega arith) (λ m h. Contains-append_left c (k ∷ []) m (more m h)) r.name r.body (closed k r p at)) v x fine

-- Walks that come back, and cycles of left calls.
use Rattle.std.proofs.Common.{◌≡◌, ◌⊎◌, inl, inr, Bool, true, false, if◌then◌else◌, [], ◌∷◌, Option, Some, None, refl, sym, ap, subst, ◌∙◌, bytes_eq}
use Rattle.std.proofs.lemmas.Slice.Eq.{bytes_eq-Decides}
use Rattle.base_language.specs.Language.Text.{Text}
use Rattle.base_language.specs.Language.Expression.{Expression, Ident, Seq, Rule, Grammar, rule_of, or_else}
use Rattle.base_language.specs.Language.WellFormed.{IsNullable, nullable_str, nullable_insens, nullable_soi, nullable_eoi, nullable_call, nullable_pos_pred, nullable_neg_pred, nullable_opt, nullable_rep, nullable_rep_max, nullable_seq, nullable_left, nullable_right, nullable_rep_once, nullable_push, nullable_exact_zero, nullable_exact, nullable_min_zero, nullable_min, nullable_min_max_zero, nullable_min_max, nullable_skip, nullable_restore, CannotFail, LeftCalls, left_name, left_first, left_second, left_pos_pred, left_neg_pred, left_left, left_right, left_opt, left_rep, left_rep_once, left_rep_exact, left_rep_min, left_rep_max, left_rep_min_max, left_push, left_restore, Leads, at_once, by_way, nullable_push_literal, nullable_tag, left_tag}
use Rattle.front_validator.specs.Walk.{without, Walked, w_name, w_first, w_second, w_pos_pred, w_neg_pred, w_left, w_right, w_opt, w_rep, w_rep_once, w_rep_exact, w_rep_min, w_rep_max, w_rep_min_max, w_push, w_restore, WalkLeads, w_at_once, w_by_way, w_tag}
use Rattle.base_language.proofs.CannotFailIsNullable.{nullable_of}

-- 1. the rules without those of a name
differ : (n k : Text) → bytes_eq n k ≡ false → n ≡ k → ⊥
differ n k h e = let t = (bytes_eq-Decides n k).1 e in cc

apart : (n k : Text) → (n ≡ k → ⊥) → bytes_eq n k ≡ false
apart n k f = go (bytes_eq n k) refl
  where
    go : (b : Bool) → bytes_eq n k ≡ b → b ≡ false
    go true e = absurd (f ((bytes_eq-Decides n k).0 e))
    go false e = refl

pub rule_without : (v : Text) (g : Grammar) (n : Text) → (v ≡ n → ⊥) → rule_of (without v g) n ≡ rule_of g n
rule_without v [] n d = refl
rule_without v (r ∷ g) n d = go (bytes_eq r.name v) refl (rule_without v g n d)
  where
    no_rule : (o : Option Rule) → o ≡ or_else o None
    no_rule None = refl
    no_rule (Some q) = refl

    go : (b : Bool) → bytes_eq r.name v ≡ b → rule_of (without v g) n ≡ rule_of g n → rule_of (if b then without v g else (r ∷ without v g)) n ≡ or_else (rule_of g n) (if bytes_eq r.name n then Some r else None)
    go true e h = let i : bytes_eq r.name n ≡ false = apart r.name n (λ j. d (sym ((bytes_eq-Decides r.name v).0 e) ∙ j)) in
        subst (λ b. rule_of (without v g) n ≡ or_else (rule_of g n) (if b then Some r else None)) (sym i) (h ∙ no_rule (rule_of g n))
    go false e h = ap (λ o. or_else o (if bytes_eq r.name n then Some r else None)) h

pub rule_gone : (v : Text) (g : Grammar) → rule_of (without v g) v ≡ None
rule_gone v [] = refl
rule_gone v (r ∷ g) = go (bytes_eq r.name v) refl (rule_gone v g)
  where
    go : (b : Bool) → bytes_eq r.name v ≡ b → rule_of (without v g) v ≡ None → rule_of (if b then without v g else (r ∷ without v g)) v ≡ None
    go true e h = h
    go false e h = subst (λ o. or_else o (if bytes_eq r.name v then Some r else None) ≡ None) (sym h) (subst (λ b. or_else None (if b then Some r else None) ≡ None) (sym e) refl)

pub data Compared (n k : Text) : Type 0 where
  same_name : n ≡ k → Compared n k
  other_name : (n ≡ k → ⊥) → Compared n k

pub compared : (n k : Text) → Compared n k
compared n k = go (bytes_eq n k) refl
  where
    go : (b : Bool) → bytes_eq n k ≡ b → Compared n k
    go true e = same_name ((bytes_eq-Decides n k).0 e)
    go false e = other_name (differ n k e)

pub rule_within : (v : Text) (g : Grammar) (n : Text) (r : Rule) → rule_of (without v g) n ≡ Some r → rule_of g n ≡ Some r
rule_within v g n r h = go (compared v n)
  where
    go : Compared v n → rule_of g n ≡ Some r
    go (same_name e) = let i = subst (λ k. rule_of (without v g) k ≡ None) e (rule_gone v g) in cc
    go (other_name d) = sym (rule_without v g n d) ∙ h

module _ (g : Grammar) where
  pub null_more : (v : Text) {e : Expression} → IsNullable (without v g) e → IsNullable g e
  null_more v nullable_str = nullable_str
  null_more v nullable_insens = nullable_insens
  null_more v nullable_soi = nullable_soi
  null_more v nullable_eoi = nullable_eoi
  null_more v nullable_pos_pred = nullable_pos_pred
  null_more v nullable_neg_pred = nullable_neg_pred
  null_more v nullable_opt = nullable_opt
  null_more v nullable_rep = nullable_rep
  null_more v nullable_rep_max = nullable_rep_max
  null_more v nullable_exact_zero = nullable_exact_zero
  null_more v nullable_min_zero = nullable_min_zero
  null_more v nullable_min_max_zero = nullable_min_max_zero
  null_more v nullable_skip = nullable_skip
  null_more v (nullable_call {n = n} {r = r} e d) = nullable_call (rule_within v g n r e) (null_more v d)
  null_more v (nullable_seq a b) = nullable_seq (null_more v a) (null_more v b)
  null_more v (nullable_left d) = nullable_left (null_more v d)
  null_more v (nullable_right d) = nullable_right (null_more v d)
  null_more v (nullable_rep_once d) = nullable_rep_once (null_more v d)
  null_more v (nullable_push d) = nullable_push (null_more v d)
  null_more v nullable_push_literal = nullable_push_literal
  null_more v (nullable_tag d) = nullable_tag (null_more v d)
  null_more v (nullable_exact d) = nullable_exact (null_more v d)
  null_more v (nullable_min d) = nullable_min (null_more v d)
  null_more v (nullable_min_max d) = nullable_min_max (null_more v d)
  null_more v (nullable_restore d) = nullable_restore (null_more v d)

  -- 2. what is walked is left-called
  pub passed : (v : Text) {a : Expression} → IsNullable (without v g) a ⊎ CannotFail (without v g) a → IsNullable g a
  passed v (inl d) = null_more v d
  passed v {a} (inr d) = null_more v (nullable_of (without v g) d)

  pub left_called : {v : Text} {e : Expression} {n : Text} → Walked g v e n → LeftCalls g e n
  left_called w_name = left_name
  left_called {v} (w_second p w) = left_second (passed v p) (left_called w)
  left_called (w_pos_pred w) = left_pos_pred (left_called w)
  left_called (w_neg_pred w) = left_neg_pred (left_called w)
  left_called (w_opt w) = left_opt (left_called w)
  left_called (w_rep w) = left_rep (left_called w)
  left_called (w_rep_once w) = left_rep_once (left_called w)
  left_called (w_rep_exact w) = left_rep_exact (left_called w)
  left_called (w_rep_min w) = left_rep_min (left_called w)
  left_called (w_rep_max w) = left_rep_max (left_called w)
  left_called (w_rep_min_max w) = left_rep_min_max (left_called w)
  left_called (w_push w) = left_push (left_called w)
  left_called (w_tag w) = left_tag (left_called w)
  left_called (w_restore w) = left_restore (left_called w)
  left_called (w_first w) = left_first (left_called w)
  left_called (w_left w) = left_left (left_called w)
  left_called (w_right w) = left_right (left_called w)

  pub leads : {n k : Text} → WalkLeads g n k → Leads g n k
  leads (w_at_once e w) = at_once e (left_called w)
  leads (w_by_way a b) = by_way (leads a) (leads b)

  -- 3. from a part of the body of v the walk comes to t
  abbrev Path : Text → Expression → Text → Type 0
  Path v e t = (k : Text) × Walked g v e k × ((k ≡ t) ⊎ WalkLeads g k t)

  path_in : {v t : Text} {a b : Expression} → ((k : Text) → Walked g v a k → Walked g v b k) → Path v a t → Path v b t
  path_in f p = (p.0, f p.0 p.1, p.2)

  data Found (v w : Text) (e : Expression) : Type 0 where
    still : IsNullable (without w g) e → Found v w e
    there : Path v e w → Found v w e
    back : Path v e v → Found v w e

  found_in : {v w : Text} {a b : Expression} → ((k : Text) → Walked g v a k → Walked g v b k) → (IsNullable (without w g) a → IsNullable (without w g) b) → Found v w a → Found v w b
  found_in f h (still d) = still (h d)
  found_in f h (there p) = there (path_in f p)
  found_in f h (back p) = back (path_in f p)

  both_found : {v w : Text} {a b : Expression} → Found v w a → Found v v a → Found v w b → Found v w (Seq a b)
  both_found (there p) i j = there (path_in (λ k w. w_first w) p)
  both_found (back p) i j = back (path_in (λ k w. w_first w) p)
  both_found (still d) (there p) j = back (path_in (λ k w. w_first w) p)
  both_found (still d) (back p) j = back (path_in (λ k w. w_first w) p)
  both_found (still d) (still h) j = found_in (λ k w. w_second (inl h) w) (λ i. nullable_seq d i) j

  onward : {n t : Text} {r : Rule} → rule_of g n ≡ Some r → Path n r.body t → WalkLeads g n t
  onward {n} e (k, w, inl h) = subst (λ x. WalkLeads g n x) h (w_at_once e w)
  onward e (k, w, inr l) = w_by_way (w_at_once e w) l

  module _ (none : (n : Text) → WalkLeads g n n → ⊥) where
    through : {v w n : Text} {r : Rule} → rule_of g n ≡ Some r → Compared w n → Found n w r.body → Found v w (Ident n)
    through e (same_name h) f = there (_, w_name, inl (sym h))
    through {n = n} e (other_name h) (still d) = still (nullable_call (rule_without _ g n h ∙ e) d)
    through {n = n} e (other_name h) (there p) = there (n, w_name, inr (onward e p))
    through {n = n} e (other_name h) (back p) = absurd (none n (onward e p))

    found : {e : Expression} → IsNullable g e → (v w : Text) → Found v w e
    found nullable_str v w = still nullable_str
    found nullable_insens v w = still nullable_insens
    found nullable_soi v w = still nullable_soi
    found nullable_eoi v w = still nullable_eoi
    found nullable_pos_pred v w = still nullable_pos_pred
    found nullable_neg_pred v w = still nullable_neg_pred
    found nullable_opt v w = still nullable_opt
    found nullable_rep v w = still nullable_rep
    found nullable_rep_max v w = still nullable_rep_max
    found nullable_exact_zero v w = still nullable_exact_zero
    found nullable_min_zero v w = still nullable_min_zero
    found nullable_min_max_zero v w = still nullable_min_max_zero
    found nullable_skip v w = still nullable_skip
    found (nullable_call {n = n} e d) v w = through e (compared w n) (found d n w)
    found (nullable_seq a b) v w = both_found (found a v w) (found a v v) (found b v w)
    found (nullable_left d) v w = found_in (λ k i. w_left i) (λ i. nullable_left i) (found d v w)
    found (nullable_right d) v w = found_in (λ k i. w_right i) (λ i. nullable_right i) (found d v w)
    found (nullable_rep_once d) v w = found_in (λ k i. w_rep_once i) (λ i. nullable_rep_once i) (found d v w)
    found (nullable_push d) v w = found_in (λ k i. w_push i) (λ i. nullable_push i) (found d v w)
    found nullable_push_literal v w = still nullable_push_literal
    found (nullable_tag d) v w = found_in (λ k i. w_tag i) (λ i. nullable_tag i) (found d v w)
    found (nullable_exact d) v w = found_in (λ k i. w_rep_exact i) (λ i. nullable_exact i) (found d v w)
    found (nullable_min d) v w = found_in (λ k i. w_rep_min i) (λ i. nullable_min i) (found d v w)
    found (nullable_min_max d) v w = found_in (λ k i. w_rep_min_max i) (λ i. nullable_min_max i) (found d v w)
    found (nullable_restore d) v w = found_in (λ k i. w_restore i) (λ i. nullable_restore i) (found d v w)

    second : {v : Text} {a b : Expression} {n : Text} → Found v v a → Walked g v b n ⊎ Path v b v → Walked g v (Seq a b) n ⊎ Path v (Seq a b) v
    second (there p) i = inr (path_in (λ k w. w_first w) p)
    second (back p) i = inr (path_in (λ k w. w_first w) p)
    second (still h) (inl w) = inl (w_second (inl h) w)
    second (still h) (inr p) = inr (path_in (λ k w. w_second (inl h) w) p)

    in_one : {v : Text} {a b : Expression} {n : Text} → ((k : Text) → Walked g v a k → Walked g v b k) → Walked g v a n ⊎ Path v a v → Walked g v b n ⊎ Path v b v
    in_one f (inl w) = inl (f _ w)
    in_one f (inr p) = inr (path_in f p)

    -- 4. a left call is walked, or the walk comes back
    walked : {v : Text} {e : Expression} {n : Text} → LeftCalls g e n → Walked g v e n ⊎ Path v e v
    walked left_name = inl w_name
    walked {v} (left_second d l) = second (found d v v) (walked l)
    walked (left_pos_pred l) = in_one (λ k i. w_pos_pred i) (walked l)
    walked (left_neg_pred l) = in_one (λ k i. w_neg_pred i) (walked l)
    walked (left_opt l) = in_one (λ k i. w_opt i) (walked l)
    walked (left_rep l) = in_one (λ k i. w_rep i) (walked l)
    walked (left_rep_once l) = in_one (λ k i. w_rep_once i) (walked l)
    walked (left_rep_exact l) = in_one (λ k i. w_rep_exact i) (walked l)
    walked (left_rep_min l) = in_one (λ k i. w_rep_min i) (walked l)
    walked (left_rep_max l) = in_one (λ k i. w_rep_max i) (walked l)
    walked (left_rep_min_max l) = in_one (λ k i. w_rep_min_max i) (walked l)
    walked (left_push l) = in_one (λ k i. w_push i) (walked l)
    walked (left_tag l) = in_one (λ k i. w_tag i) (walked l)
    walked (left_restore l) = in_one (λ k i. w_restore i) (walked l)
    walked (left_first l) = in_one (λ k i. w_first i) (walked l)
    walked (left_left l) = in_one (λ k i. w_left i) (walked l)
    walked (left_right l) = in_one (λ k i. w_right i) (walked l)

    step_walked : {n k : Text} {r : Rule} → rule_of g n ≡ Some r → Walked g n r.body k ⊎ Path n r.body n → WalkLeads g n k
    step_walked e (inl w) = w_at_once e w
    step_walked {n} e (inr p) = absurd (none n (onward e p))

    walk_leads : {n k : Text} → Leads g n k → WalkLeads g n k
    walk_leads (at_once e l) = step_walked e (walked l)
    walk_leads (by_way a b) = w_by_way (walk_leads a) (walk_leads b)

pub no_cycle : (g : Grammar) → ((n : Text) → WalkLeads g n n → ⊥) → (n : Text) → Leads g n n → ⊥
no_cycle g none n l = none n (walk_leads g none l)

pub no_walk : (g : Grammar) → ((n : Text) → Leads g n n → ⊥) → (n : Text) → WalkLeads g n n → ⊥
no_walk g none n l = none n (leads g l)

-- Readings that have an ok and take nothing: what they are readings of may be read as taking nothing.
use Rattle.std.proofs.Common.{◌≡◌, ℕ, zero, suc, List, [], ◌∷◌, ◌++◌, replicate, min, ◌-◌, Option, Some, None, is_some, Bool, true, false, not, ◌&&◌, ◌||◌, if◌then◌else◌, nat_eq, refl, ap, ℤ, pos, negsuc}
use Rattle.std.proofs.lemmas.Bool.{and_from, and_parts, or_left, or_right}
use Rattle.base_language.specs.Language.Text.{Text}
use Rattle.base_language.specs.Language.Builtins.{builtin_of}
use Rattle.base_language.specs.Language.Expression.{Expression, Str, Insens, Range, Ident, PeekSlice, PosPred, NegPred, Seq, Choice, Opt, Rep, RepOnce, RepExact, RepMin, RepMax, RepMinMax, Skip, Push, RestoreOnErr, Rule, Grammar, rule_of, PushLiteral, NodeTag}
use Rattle.front_stack_domain.specs.Stack.{AbstractStack, join_any, failed, is_among, made_intact, push_mark}
use Rattle.front_stack_domain.specs.Reading.{Reading, anything, from, builtin_reading, slice_reading, text_reading, pushed_reading, stays, Copy, Required, Optional, Endless, is_single, Walk, turns, onward, walk, walked, reading, rule_reading, name_reading, lands, loops_within, loops}
use Rattle.front_stack_loops.specs.Kinds.{is_empty_text}
use Rattle.front_stack_loops.specs.Reportable.{may_be_still, slice_may_be_still}

past : (a b : Bool) → a ≡ true → (not a || b) ≡ true → b ≡ true
past true b e h = h
past false b e h = cc

stays_still : (r : Reading) → is_some r.ok ≡ true → stays r ≡ true → r.still ≡ true
stays_still r o h = past (is_some r.ok) r.still o h

-- 1. repetitions
module _ (limit : ℕ) (step : AbstractStack → Reading) where
  turns_still : (k : ℕ) (seen : List AbstractStack) (q : Option AbstractStack) (w : Walk) → (turns limit step k seen q w).still ≡ true → w.still ≡ true
  unfolding turns
  turns_still zero seen q w h = cc
  turns_still (suc k) seen None w h = h
  turns_still (suc k) seen (Some a) w h =
      let v : Walk = record { here = join_any w.here (failed (step a).err a); failing = w.failing; still = w.still && stays (step a) } in
      go (turns limit step k (a ∷ seen) (step a).ok v) (λ g. (and_parts w.still (stays (step a)) (turns_still k (a ∷ seen) (step a).ok v g)).0) (is_among seen a) h
    where
      go : (u : Walk) → (u.still ≡ true → w.still ≡ true) → (b : Bool) → (if b then w else u).still ≡ true → w.still ≡ true
      go u f true h = h
      go u f false h = f h

  onward_still : (c : Copy) (q : Option AbstractStack) (w : Walk) → (onward limit step c q w).still ≡ true → w.still ≡ true
  onward_still c None w h = h
  onward_still Required (Some a) w h = (and_parts w.still (stays (step a)) h).0
  onward_still Optional (Some a) w h = (and_parts w.still (stays (step a)) h).0
  onward_still Endless (Some a) w h = turns_still limit [] (Some a) (record { here = None; failing = w.failing; still = w.still }) h

  walk_still : (cs : List Copy) (w : Walk) → (walk limit step cs w).still ≡ true → w.still ≡ true
  walk_still [] w h = h
  walk_still (c ∷ cs) w h = onward_still c w.here w (walk_still cs (onward limit step c w.here w) h)

  onward_gone : (c : Copy) (q : Option AbstractStack) (w : Walk) → w.here ≡ None → q ≡ None → (onward limit step c q w).here ≡ None
  onward_gone c None w e f = e
  onward_gone c (Some a) w e f = cc

  walk_gone : (cs : List Copy) (w : Walk) → w.here ≡ None → (walk limit step cs w).here ≡ None
  walk_gone [] w e = e
  walk_gone (c ∷ cs) w e = walk_gone cs (onward limit step c w.here w) (onward_gone c w.here w e e)

  module _ (p : Bool) (k : (b : AbstractStack) → is_some (step b).ok ≡ true → (step b).still ≡ true → p ≡ true) (skips : Bool) where
    first_still : (cs : List Copy) (a : AbstractStack) → is_some (walked limit step skips a (Required ∷ cs)).ok ≡ true → (walked limit step skips a (Required ∷ cs)).still ≡ true → p ≡ true
    first_still cs a o h =
        let w : Walk = record { here = (step a).ok; failing = false || is_some (step a).err; still = true && stays (step a) } in
        let v = walk limit step cs w in
        let s : v.still ≡ true = (and_parts v.still (not skips || is_single (Required ∷ cs)) (past (is_some v.here) (v.still && (not skips || is_single (Required ∷ cs))) o h)).0 in
        let there : is_some (step a).ok ≡ true = go v.here (step a).ok (λ e. walk_gone cs w e) o in
        k a there (stays_still (step a) there (walk_still cs w s))
      where
        go : (r q : Option AbstractStack) → (q ≡ None → r ≡ None) → is_some r ≡ true → is_some q ≡ true
        go r None f h = let e = f refl in cc
        go r (Some b) f h = refl

    counted_still : (n : ℕ) (cs : List Copy) (a : AbstractStack) → is_some (walked limit step skips a (replicate n Required ++ cs)).ok ≡ true → (walked limit step skips a (replicate n Required ++ cs)).still ≡ true → (nat_eq n 0 || p) ≡ true
    counted_still zero cs a o h = refl
    counted_still (suc n) cs a o h = or_right (nat_eq (suc n) 0) p (first_still (replicate n Required ++ cs) a o h)

    exact_still : (n : ℕ) (a : AbstractStack) → is_some (walked limit step skips a (replicate n Required)).ok ≡ true → (walked limit step skips a (replicate n Required)).still ≡ true → (nat_eq n 0 || p) ≡ true
    exact_still zero a o h = refl
    exact_still (suc n) a o h = or_right (nat_eq (suc n) 0) p (first_still (replicate n Required) a o h)

-- 2. sequences, choices and `PUSH`
module _ (p q : Bool) (r : Reading) (f : AbstractStack → Reading) (k : is_some r.ok ≡ true → r.still ≡ true → p ≡ true)
    (l : (b : AbstractStack) → is_some (f b).ok ≡ true → (f b).still ≡ true → q ≡ true) where
  seq_still : (skips : Bool) → is_some (from r.ok f).ok ≡ true → (r.still && ((from r.ok f).still && not skips)) ≡ true → (p && q) ≡ true
  seq_still skips o h = go r.ok k o h
    where
      go : (z : Option AbstractStack) → (is_some z ≡ true → r.still ≡ true → p ≡ true) → is_some (from z f).ok ≡ true → (r.still && ((from z f).still && not skips)) ≡ true → (p && q) ≡ true
      go None k o h = cc
      go (Some b) k o h =
          let (s, t) = and_parts r.still ((f b).still && not skips) h in
          and_from p q (k refl s) (l b o (and_parts (f b).still (not skips) t).0)

  second_still : (z : Option AbstractStack) → is_some (from z f).ok ≡ true → stays (from z f) ≡ true → q ≡ true
  second_still None o h = cc
  second_still (Some b) o h = l b o (stays_still (f b) o h)

  choice_still : (z : Option AbstractStack) → is_some (join_any r.ok (from z f).ok) ≡ true → (stays r && stays (from z f)) ≡ true → (p || q) ≡ true
  choice_still z o h = let (s, t) = and_parts (stays r) (stays (from z f)) h in go r.ok refl o s t
    where
      go : (x : Option AbstractStack) → r.ok ≡ x → is_some (join_any x (from z f).ok) ≡ true → stays r ≡ true → stays (from z f) ≡ true → (p || q) ≡ true
      go None e o s t = or_right p q (second_still z o t)
      go (Some b) e o s t = or_left p q (k (ap is_some e) (stays_still r (ap is_some e) s))

pushed_some : (r : Reading) → is_some (pushed_reading r).ok ≡ true → is_some r.ok ≡ true
pushed_some r h = go r.ok h
  where
    go : (z : Option AbstractStack) → is_some (elim z [ None ↦ None | Some b ↦ Some (push_mark r.still b) ]) ≡ true → is_some z ≡ true
    go None h = h
    go (Some b) h = refl

-- 3. expressions
text_still : (t : Text) (a : AbstractStack) → (text_reading t a).still ≡ true → is_empty_text t ≡ true
text_still [] a h = refl
text_still (c ∷ t) a h = cc

slice_still : (i : ℤ) (j : Option ℤ) (a : AbstractStack) → (slice_reading i j a).still ≡ true → slice_may_be_still i j ≡ true
slice_still (pos zero) None a h = refl
slice_still (pos zero) (Some (pos zero)) a h = refl
slice_still (pos zero) (Some (pos (suc k))) a h = cc
slice_still (pos zero) (Some (negsuc k)) a h = cc
slice_still (pos (suc k)) j a h = cc
slice_still (negsuc k) j a h = cc

module _ (limit : ℕ) (skips : Bool) (named : Text → AbstractStack → Reading) (near : Text → Bool)
    (names : (n : Text) (a : AbstractStack) → is_some (named n a).ok ≡ true → (named n a).still ≡ true → near n ≡ true) where
  abbrev R : Expression → AbstractStack → Reading
  R e a = reading limit skips named e a

  pub reads_still : (e : Expression) (a : AbstractStack) → is_some (R e a).ok ≡ true → (R e a).still ≡ true → may_be_still near e ≡ true
  reads_still (Str t) a o h = text_still t a h
  reads_still (Insens t) a o h = text_still t a h
  reads_still (Range b c) a o h = cc
  reads_still (Ident n) a o h = names n a o h
  reads_still (PeekSlice i j) a o h = slice_still i j a h
  reads_still (PosPred e) a o h = refl
  reads_still (NegPred e) a o h = refl
  reads_still (Seq e f) a o h = seq_still (may_be_still near e) (may_be_still near f) (R e a) (λ b. R f b) (reads_still e a) (λ b. reads_still f b) skips o h
  reads_still (Choice e f) a o h = choice_still (may_be_still near e) (may_be_still near f) (R e a) (λ b. R f b) (reads_still e a) (λ b. reads_still f b) (failed (R e a).err a) o h
  reads_still (Opt e) a o h = refl
  reads_still (Rep e) a o h = refl
  reads_still (RepOnce e) a o h = first_still limit (λ b. R e b) (may_be_still near e) (λ b. reads_still e b) skips (Endless ∷ []) a o h
  reads_still (RepExact e n) a o h = exact_still limit (λ b. R e b) (may_be_still near e) (λ b. reads_still e b) skips n a o h
  reads_still (RepMin e n) a o h = counted_still limit (λ b. R e b) (may_be_still near e) (λ b. reads_still e b) skips n (Endless ∷ []) a o h
  reads_still (RepMax e n) a o h = refl
  reads_still (RepMinMax e m n) a o h = counted_still limit (λ b. R e b) (may_be_still near e) (λ b. reads_still e b) skips (min m n) (replicate (n - m) Optional) a o h
  reads_still (Skip ts) a o h = cc
  reads_still (Push e) a o h = reads_still e a (pushed_some (R e a) o) h
  reads_still (PushLiteral t) a o h = refl
  reads_still (NodeTag e t) a o h = reads_still e a o h
  reads_still (RestoreOnErr e) a o h = reads_still e a o h

-- 4. names, however deep calls are followed
module _ (limit : ℕ) (skips : Bool) (recursive : Text → Bool) (g : Grammar) (near : Text → Bool)
    (builtins : (n : Text) → rule_of g n ≡ None → (a : AbstractStack) → (builtin_reading (builtin_of n) a).still ≡ true → near n ≡ true)
    (bodies : (n : Text) (r : Rule) → rule_of g n ≡ Some r → may_be_still near r.body ≡ true → near n ≡ true) where
  rule_still : (f : Expression → AbstractStack → Reading) → ((e : Expression) (a : AbstractStack) → is_some (f e a).ok ≡ true → (f e a).still ≡ true → may_be_still near e ≡ true)
      → (n : Text) (q : Option Rule) → rule_of g n ≡ q → (a : AbstractStack) → is_some (rule_reading limit skips recursive g n q f a).ok ≡ true → (rule_reading limit skips recursive g n q f a).still ≡ true → near n ≡ true
  rule_still f k n None e a o h = builtins n e a h
  rule_still f k n (Some r) e a o h = bodies n r e (go (recursive n) o h)
    where
      go : (b : Bool) → is_some (if b then anything else f r.body a).ok ≡ true → (if b then anything else f r.body a).still ≡ true → may_be_still near r.body ≡ true
      go true o h = cc
      go false o h = k r.body a o h

  pub names_still : (k : ℕ) (n : Text) (a : AbstractStack) → is_some (name_reading limit skips recursive g k n a).ok ≡ true → (name_reading limit skips recursive g k n a).still ≡ true → near n ≡ true
  names_still zero n a o h = rule_still (λ e b. anything) (λ e b o h. cc) n (rule_of g n) refl a o h
  names_still (suc k) n a o h =
      let named : Text → AbstractStack → Reading = λ m b. name_reading limit skips recursive g k m b in
      rule_still (λ e b. reading limit skips named e b) (λ e b. reads_still limit skips named near (names_still k) e b) n (rule_of g n) refl a o h

-- 5. where the loop search finds a loop the first turn takes nothing
lands_still : (o e : Option AbstractStack) (s : Bool) (starts : List (List Bool)) (f : List (List Bool) → AbstractStack → Bool) → lands o e s starts f ≡ true → (is_some o ≡ true) × (s ≡ true)
lands_still (Some b) None true starts f h = (refl, refl)
lands_still (Some b) None false starts f h = cc
lands_still (Some b) (Some d) s starts f h = cc
lands_still None e s starts f h = cc

pub first_turn : (step : AbstractStack → Reading) (k : ℕ) (a : AbstractStack) → loops k step a ≡ true → (is_some (step (made_intact a)).ok ≡ true) × ((step (made_intact a)).still ≡ true)
first_turn step zero a h = cc
first_turn step (suc k) a h = let b = made_intact a in lands_still (step b).ok (step b).err (step b).still (a.marks ∷ []) (λ marks c. loops_within step k marks c) h

-- Each rewriting keeps what an expression does, under one grammar.
use Rattle.std.proofs.Common.{◌≡◌, ℕ, suc, ◌+◌, List, [], ◌∷◌, ◌++◌, Bool, true, false, ◌&&◌, ◌||◌, if◌then◌else◌, refl, sym, ◌∙◌, ap, subst, length, take, drop, nat_eq, codes, add_assoc, add-zero, length-append, drop-drop, ap₂, one-add}
use Rattle.std.proofs.Math.Seq.{take-add}
use Rattle.std.specs.List.{sum_by}
use Rattle.std.proofs.lemmas.List.Sums.{sum_by-append}
use Rattle.std.specs.Char.{len_utf8, eq_ignore_ascii_case}
use Rattle.base_language.specs.Language.Expression.{Grammar, Expression, Str, Insens, Ident, NegPred, Seq, Choice, Opt, Rep, RuleType, Normal, Silent, Atomic, CompoundAtomic, NonAtomic, Rule}
use Rattle.base_language.specs.Language.State.{Classes, Mode, AtomicMode, CompoundAtomicMode, State, Trees, None', joined, Outcome, Success, Failure, moved}
use Rattle.base_language.specs.Language.Text.{Text}
use Rattle.base_language.specs.Language.Matching.{begins, any_begins, distance, text_outcome, character_outcome}
use Rattle.base_language.specs.Language.Builtins.{builtins}
use Rattle.base_language.specs.Language.Meaning.{Does, Task, Run, Turns, Skipping, str, insens, skip, call, other, neg_pred, seq, seq_first, seq_second, left, right, opt, opt_none, rep_none, turn, turn_none, rep_exact, rep_max, rep_min_max, atomic, compound_atomic, with_token, body_mode, mode_in, rep, rep_min}
use Rattle.base_language.specs.Rewritings.Rewriting.{by_rotating, by_unrolling, by_skipping, by_joining, by_factoring, Strings, one, named, more, Rewrites, rotate_sequence, rotate_choice, unroll_exact, unroll_min, unroll_max, unroll_min_max, skip_until, join_literals, join_insensitive, factor_prefix, factor_optional, factor_optional_compound, factor_absorbed, KeepsAny, Rotates, Unrolls, Joins, Factors}
use Rattle.base_language.proofs.OneOutcome.{same, same_state, same_trees, from}
use Rattle.base_language.proofs.Congruence.{Implies}
use Rattle.base_language.proofs.Steps.{joined_assoc, joined_nil}

-- the modes in which the body of a rule of a type may run
pub data RunsIn : RuleType → Mode → Type 0 where
  normal : {m : Mode} → RunsIn Normal m
  silent : {m : Mode} → RunsIn Silent m
  non_atomic : {m : Mode} → RunsIn NonAtomic m
  atomic_only : RunsIn Atomic AtomicMode
  compound_only : RunsIn CompoundAtomic CompoundAtomicMode

pub runs_in : (y : RuleType) (b : Bool) (m : Mode) → RunsIn y (mode_in y b m)
runs_in Normal b m = normal
runs_in Silent b m = silent
runs_in Atomic b m = atomic_only
runs_in CompoundAtomic b m = compound_only
runs_in NonAtomic b m = non_atomic

regrouped : (us vs ws xs ys : Trees) → joined (joined us (joined vs ws)) (joined xs ys) ≡ joined us (joined vs (joined ws (joined xs ys)))
regrouped us vs ws xs ys = simp joined_assoc

-- moving twice
abbrev Equal : State → State → Type 0
Equal s t = s ≡ t

moved-zero : (s : State) → moved 0 s ≡ s
moved-zero s = ap (λ i. record s { position = i }) (add-zero s.position)

state_path : {i j : ℕ} {t u : Text} {k : List Text} → i ≡ j → t ≡ u → Equal (record { position = i; rest = t; stack = k }) (record { position = j; rest = u; stack = k })
state_path p q = cc

moved-moved : (n m : ℕ) (s : State) → moved m (moved n s) ≡ moved (n + m) s
moved-moved n m s =
    let h = ap (sum_by len_utf8) (take-add n m s.rest) ∙ sum_by-append len_utf8 (take n s.rest) (take m (drop n s.rest)) in
    let i = drop-drop m n s.rest in
    let j = add_assoc s.position (sum_by len_utf8 (take n s.rest)) (sum_by len_utf8 (take m (drop n s.rest))) in
    state_path (j ∙ ap (λ x. s.position + x) (sym h)) i

pub and_assoc : (a b c : Bool) → (a && (b && c)) ≡ ((a && b) && c)
and_assoc true b c = refl
and_assoc false b c = refl

begins-append : (alike : ℕ → ℕ → Bool) (a b u : Text) → begins alike (a ++ b) u ≡ (begins alike a u && begins alike b (drop (length a) u))
begins-append alike [] b u = refl
begins-append alike (c ∷ a) b [] = refl
begins-append alike (c ∷ a) b (d ∷ u) = ap (λ x. alike c d && x) (begins-append alike a b u) ∙ and_assoc (alike c d) (begins alike a u) (begins alike b (drop (length a) u))

module _ (g : Grammar) (classes : Classes) where
  -- with other trees; with another outcome
  with_trees : {k : Task} {s t : State} {us vs : Trees} → us ≡ vs → Does g classes k s (Success t us) → Does g classes k s (Success t vs)
  with_trees {k} {s} {t} e d = subst (λ x. Does g classes k s (Success t x)) e d

  with_outcome : {k : Task} {s : State} {o p : Outcome} → o ≡ p → Does g classes k s o → Does g classes k s p
  with_outcome {k} {s} e d = subst (λ x. Does g classes k s x) e d

  module _ (m : Mode) where
    pub rotate_seq_forth : {a b c : Expression} → Implies g classes m (Seq (Seq a b) c) (Seq a (Seq b c))
    rotate_seq_forth s _ (seq {vs = xs} {ws = ys} (seq {us = us} {vs = vs} {ws = ws} a k b) l c) = with_trees (sym (regrouped us vs ws xs ys)) (seq a k (seq b l c))
    rotate_seq_forth s _ (seq_first (seq_first a)) = seq_first a
    rotate_seq_forth s _ (seq_first (seq_second a k b)) = seq_second a k (seq_first b)
    rotate_seq_forth s _ (seq_second (seq a k b) l c) = seq_second a k (seq_second b l c)

    pub rotate_seq_back : {a b c : Expression} → Implies g classes m (Seq a (Seq b c)) (Seq (Seq a b) c)
    rotate_seq_back s _ (seq {us = us} {vs = vs} a k (seq {us = ws} {vs = xs} {ws = ys} b l c)) = with_trees (regrouped us vs ws xs ys) (seq (seq a k b) l c)
    rotate_seq_back s _ (seq_first a) = seq_first (seq_first a)
    rotate_seq_back s _ (seq_second a k (seq_first b)) = seq_first (seq_second a k b)
    rotate_seq_back s _ (seq_second a k (seq_second b l c)) = seq_second (seq a k b) l c

    pub rotate_choice_forth : {a b c : Expression} → Implies g classes m (Choice (Choice a b) c) (Choice a (Choice b c))
    rotate_choice_forth s _ (left (left a)) = left a
    rotate_choice_forth s _ (left (right a b)) = right a (left b)
    rotate_choice_forth s _ (right (right a b) c) = right a (right b c)

    pub rotate_choice_back : {a b c : Expression} → Implies g classes m (Choice a (Choice b c)) (Choice (Choice a b) c)
    rotate_choice_back s _ (left a) = left (left a)
    rotate_choice_back s _ (right a (left b)) = left (right a b)
    rotate_choice_back s _ (right a (right b c)) = right (right a b) c

    factor_forth : {l r q : Expression} → Implies g classes m (Choice (Seq l r) (Seq l q)) (Seq l (Choice r q))
    factor_forth s _ (left (seq a k b)) = seq a k (left b)
    factor_forth s _ (right (seq_first a) (seq b k c)) = let h = same g classes a b in cc
    factor_forth s _ (right (seq_first a) (seq_first b)) = seq_first a
    factor_forth s _ (right (seq_first a) (seq_second b k c)) = seq_first a
    factor_forth s _ (right (seq_second a k b) (seq c l d)) =
        let h = same_state (same g classes c a) in
        let i = same_state (same g classes l (from g classes h k)) in
        seq c l (right (from g classes i b) d)
    factor_forth s _ (right (seq_second a k b) (seq_first c)) = seq_first c
    factor_forth s _ (right (seq_second a k b) (seq_second c l d)) =
        let h = same_state (same g classes c a) in
        let i = same_state (same g classes l (from g classes h k)) in
        seq_second c l (right (from g classes i b) d)

    factor_back : {l r q : Expression} → Implies g classes m (Seq l (Choice r q)) (Choice (Seq l r) (Seq l q))
    factor_back s _ (seq a k (left b)) = left (seq a k b)
    factor_back s _ (seq a k (right b c)) = right (seq_second a k b) (seq a k c)
    factor_back s _ (seq_first a) = right (seq_first a) (seq_first a)
    factor_back s _ (seq_second a k (right b c)) = right (seq_second a k b) (seq_second a k c)

    unreachable_forth : {l r : Expression} → Implies g classes m (Choice l (Seq l r)) l
    unreachable_forth s _ (left a) = a
    unreachable_forth s _ (right a (seq b k c)) = let h = same g classes a b in cc
    unreachable_forth s _ (right a (seq_first b)) = a
    unreachable_forth s _ (right a (seq_second b k c)) = a

    unreachable_back : {l r : Expression} → Implies g classes m l (Choice l (Seq l r))
    unreachable_back s Failure d = right d (seq_first d)
    unreachable_back s (Success t us) d = left d

    opt_ends : {e : Expression} {s : State} → Does g classes (Run m (Opt e)) s Failure → ⊥
    opt_ends d = elim d [ ]

    -- where nothing is skipped
    module _ (nothing : (s : State) → Does g classes (Skipping m) s (Success s None')) where
      optional_forth : {l r : Expression} → Implies g classes m (Choice (Seq l r) l) (Seq l (Opt r))
      optional_forth s _ (left (seq a k b)) = seq a k (opt b)
      optional_forth s _ (right (seq_first a) b) = with_outcome (same g classes a b) (seq_first a)
      optional_forth s _ (right (seq_second {t = t} {us = us} a k b) c) =
          with_outcome (same g classes a c)
          (with_trees (joined_nil us) (seq a (nothing t) (opt_none (from g classes (same_state (same g classes (nothing t) k)) b))))

      optional_back : {l r : Expression} → Implies g classes m (Seq l (Opt r)) (Choice (Seq l r) l)
      optional_back s _ (seq a k (opt b)) = left (seq a k b)
      optional_back s _ (seq {t = t} {us = us} {vs = vs} a k (opt_none b)) =
          let h = same g classes (nothing t) k in
          let i = ap (λ x. joined us (joined x None')) (same_trees h) in
          with_outcome (ap₂ (λ x y. Success x y) (same_state h) (sym (joined_nil us) ∙ i)) (right (seq_second a k b) a)
      optional_back s _ (seq_first a) = right (seq_first a) a
      optional_back s _ (seq_second a k b) = absurd (opt_ends b)

  -- two tasks that both do what one function says
  both_do : {k l : Task} (f : State → Outcome) → ((s : State) → Does g classes k s (f s)) → ((s : State) → Does g classes l s (f s)) → (s : State) (o : Outcome) → Does g classes k s o → Does g classes l s o
  both_do f p q s o d = with_outcome (same g classes (p s) d) (q s)

  module _ (alike : ℕ → ℕ → Bool) (literal : Text → Expression) (does : (t : Text) (s : State) → Does g classes (Run AtomicMode (literal t)) s (text_outcome alike t s)) where
    at_test : {b : Bool} (t : Text) (s : State) → begins alike t s.rest ≡ b → text_outcome alike t s ≡ (if b then Success (moved (length t) s) None' else Failure)
    at_test t s h = ap (λ b. if b then Success (moved (length t) s) None' else Failure) h

    pair_does : (a b : Text) (s : State) → Does g classes (Run AtomicMode (Seq (literal a) (literal b))) s (text_outcome alike (a ++ b) s)
    pair_does a b s = go (begins alike a s.rest) (begins alike b (drop (length a) s.rest)) refl refl
      where
        go : (p q : Bool) → begins alike a s.rest ≡ p → begins alike b (drop (length a) s.rest) ≡ q → Does g classes (Run AtomicMode (Seq (literal a) (literal b))) s (text_outcome alike (a ++ b) s)
        go true q h i =
            let k = begins-append alike a b s.rest ∙ (ap (λ x. x && begins alike b (drop (length a) s.rest)) h ∙ i) in
            ended q i k
          where
            ended : (q : Bool) → begins alike b (drop (length a) s.rest) ≡ q → begins alike (a ++ b) s.rest ≡ q → Does g classes (Run AtomicMode (Seq (literal a) (literal b))) s (text_outcome alike (a ++ b) s)
            ended true i k = with_outcome (ap (λ x. Success x None') (moved-moved (length a) (length b) s) ∙ (ap (λ n. Success (moved n s) None') (sym (length-append a b)) ∙ sym (at_test (a ++ b) s k)))
                (seq (with_outcome (at_test a s h) (does a s)) atomic (with_outcome (at_test b (moved (length a) s) i) (does b (moved (length a) s))))
            ended false i k = with_outcome (sym (at_test (a ++ b) s k))
                (seq_second (with_outcome (at_test a s h) (does a s)) atomic (with_outcome (at_test b (moved (length a) s) i) (does b (moved (length a) s))))
        go false q h i =
            let k = begins-append alike a b s.rest ∙ ap (λ x. x && begins alike b (drop (length a) s.rest)) h in
            with_outcome (sym (at_test (a ++ b) s k)) (seq_first (with_outcome (at_test a s h) (does a s)))

-- `(!c ~ ANY)*` goes where `Skip` goes
-- a success, or a failure
data Hit : Bool → Outcome → Type 0 where
  hit : {s : State} {us : Trees} → Hit true (Success s us)
  miss : Hit false Failure

hit_or_miss : {b : Bool} {o : Outcome} → (r : Rule) (m : Mode) (s : State) → Hit b o → Hit b (with_token r m s o)
hit_or_miss r m s hit = hit
hit_or_miss r m s miss = miss

or_assoc : (a b c : Bool) → (a || (b || c)) ≡ ((a || b) || c)
or_assoc true b c = refl
or_assoc false b c = refl

any_begins-append : (ts us : List Text) (u : Text) → any_begins (ts ++ us) u ≡ (any_begins ts u || any_begins us u)
any_begins-append [] us u = refl
any_begins-append (t ∷ ts) us u = ap (λ x. begins nat_eq t u || x) (any_begins-append ts us u) ∙ or_assoc (begins nat_eq t u) (any_begins ts u) (any_begins us u)

hit_at : (b : Bool) (s : State) → Hit (b || false) (if b then Success s None' else Failure)
hit_at true s = hit
hit_at false s = miss

module _ (g : Grammar) (classes : Classes) where
  abbrev Finds : Expression → Bool → Mode → State → Type 0
  Finds c b m s = (o : Outcome) × (Does g classes (Run m c) s o × Hit b o)

  either_finds : {x e : Expression} {b c : Bool} {o p : Outcome} {m : Mode} {s : State} → Does g classes (Run m x) s o → Hit b o → Does g classes (Run m e) s p → Hit c p → Finds (Choice x e) (b || c) m s
  either_finds d hit e j = (_, (left d, hit))
  either_finds d miss e j = (_, (right d e, j))

  finds : {c : Expression} {ts : List Text} (m : Mode) (s : State) → Strings g c ts → Finds c (any_begins ts s.rest) m s
  finds m s (one {t = t}) = (text_outcome nat_eq t s, (str, hit_at (begins nat_eq t s.rest) (moved (length t) s)))
  finds m s (named {r = r} h d) =
      let (o, i) = finds (body_mode r m) s d in
      (with_token r m s o, (call h i.0, hit_or_miss r m s i.1))
  finds m s (more {x = x} {e = e} {ts = ts} {us = us} l d f) =
      let i = finds m s d in
      let j = finds m s f in
      subst (λ b. Finds (Choice x e) b m s) (sym (any_begins-append ts us s.rest)) (either_finds i.1.0 i.1.1 j.1.0 j.1.1)

  abbrev turn_of : Expression → Expression
  turn_of c = Seq (NegPred c) (Ident (codes "ANY"))

  -- a turn fails where a string stands or the text ends, and else goes on by a character
  stands : {c : Expression} {s : State} {o : Outcome} → Does g classes (Run AtomicMode c) s o → Hit true o → Does g classes (Run AtomicMode (turn_of c)) s Failure
  stands d hit = seq_first (neg_pred d)

  goes_by : {c : Expression} {s t : State} {o : Outcome} → Does g classes (Run AtomicMode c) s o → Hit false o → Does g classes (Run AtomicMode (Ident (codes "ANY"))) s (Success t None') → Does g classes (Run AtomicMode (turn_of c)) s (Success t None')
  goes_by d miss a = seq (neg_pred d) atomic a

  at_end : {c : Expression} {s : State} {o : Outcome} {b : Bool} → Does g classes (Run AtomicMode c) s o → Hit b o → Does g classes (Run AtomicMode (Ident (codes "ANY"))) s Failure → Does g classes (Run AtomicMode (turn_of c)) s Failure
  at_end d hit a = seq_first (neg_pred d)
  at_end d miss a = seq_second (neg_pred d) atomic a

  any_does : KeepsAny g → (m : Mode) (s : State) → Does g classes (Run AtomicMode (Ident (codes "ANY"))) s (character_outcome (λ c. true) s)
  unfolding builtins
  any_does h m s = other h refl

  module _ (free : KeepsAny g) {c : Expression} {ts : List Text} (known : Strings g c ts) where
    abbrev Turned : State → ℕ → Type 0
    Turned s n = Does g classes (Turns AtomicMode (turn_of c)) s (Success (moved n s) None')

    ends_here : {s : State} → Does g classes (Run AtomicMode (turn_of c)) s Failure → Turned s 0
    ends_here {s} d = with_outcome g classes (ap (λ x. Success x None') (sym (moved-zero s))) (turn_none atomic d)

    one_more : (n : ℕ) {b : Bool} {s : State} {o : Outcome} → Does g classes (Run AtomicMode c) s o → Hit b o → Does g classes (Run AtomicMode (Ident (codes "ANY"))) s (Success (moved 1 s) None') → Turned (moved 1 s) n → Turned s (if b then 0 else suc n)
    one_more n d hit a e = ends_here (stands d hit)
    one_more n {s = s} d miss a e = with_outcome g classes (ap (λ x. Success x None') (moved-moved 1 n s ∙ ap (λ i. moved i s) (one-add n))) (turn atomic (goes_by d miss a) e)

    turns_do : (u : Text) (i : ℕ) (k : List Text) → Turned (record { position = i; rest = u; stack = k }) (distance ts u)
    turns_do [] i k =
        let s : State = record { position = i; rest = []; stack = k } in
        let f = finds AtomicMode s known in
        ends_here (at_end f.1.0 f.1.1 (any_does free AtomicMode s))
    turns_do (x ∷ u) i k =
        let s : State = record { position = i; rest = x ∷ u; stack = k } in
        let f = finds AtomicMode s known in
        one_more (distance ts u) f.1.0 f.1.1 (any_does free AtomicMode s) (turns_do u _ k)

    rep_of_turns : {s : State} {o : Outcome} → Does g classes (Turns AtomicMode (turn_of c)) s o → Does g classes (Run AtomicMode (Rep (turn_of c))) s o
    rep_of_turns (turn atomic a b) = rep a b
    rep_of_turns (turn_none atomic a) = rep_none a

    pub skip_does : (s : State) → Does g classes (Run AtomicMode (Rep (turn_of c))) s (Success (moved (distance ts s.rest) s) None')
    skip_does s = rep_of_turns (turns_do s.rest s.position s.stack)

-- the rewritings that look no name up
module _ (f : Grammar) (classes : Classes) where
  pub rotates_forth : {m : Mode} {a b : Expression} → Rotates a b → Implies f classes m a b
  rotates_forth {m = m} rotate_sequence s o d = rotate_seq_forth f classes m s o d
  rotates_forth {m = m} rotate_choice s o d = rotate_choice_forth f classes m s o d

  pub rotates_back : {m : Mode} {a b : Expression} → Rotates a b → Implies f classes m b a
  rotates_back {m = m} rotate_sequence s o d = rotate_seq_back f classes m s o d
  rotates_back {m = m} rotate_choice s o d = rotate_choice_back f classes m s o d

  pub unrolls_forth : {m : Mode} {a b : Expression} → Unrolls a b → Implies f classes m a b
  unrolls_forth unroll_exact s o (rep_exact d) = d
  unrolls_forth unroll_min s o (rep_min d) = d
  unrolls_forth unroll_max s o (rep_max d) = d
  unrolls_forth unroll_min_max s o (rep_min_max d) = d

  pub unrolls_back : {m : Mode} {a b : Expression} → Unrolls a b → Implies f classes m b a
  unrolls_back unroll_exact s o d = rep_exact d
  unrolls_back unroll_min s o d = rep_min d
  unrolls_back unroll_max s o d = rep_max d
  unrolls_back unroll_min_max s o d = rep_min_max d

  pub joins_forth : {y : RuleType} {m : Mode} {a b : Expression} → Joins y a b → RunsIn y m → Implies f classes m a b
  joins_forth (join_literals {a = a} {b = b}) atomic_only s o d = both_do f classes _ (pair_does f classes nat_eq Str (λ t s. str) a b) (λ s. str) s o d
  joins_forth (join_insensitive {a = a} {b = b}) atomic_only s o d = both_do f classes _ (pair_does f classes eq_ignore_ascii_case Insens (λ t s. insens) a b) (λ s. insens) s o d

  pub joins_back : {y : RuleType} {m : Mode} {a b : Expression} → Joins y a b → RunsIn y m → Implies f classes m b a
  joins_back (join_literals {a = a} {b = b}) atomic_only s o d = both_do f classes _ (λ s. str) (pair_does f classes nat_eq Str (λ t s. str) a b) s o d
  joins_back (join_insensitive {a = a} {b = b}) atomic_only s o d = both_do f classes _ (λ s. insens) (pair_does f classes eq_ignore_ascii_case Insens (λ t s. insens) a b) s o d

  pub factors_forth : {y : RuleType} {m : Mode} {a b : Expression} → Factors y a b → RunsIn y m → Implies f classes m a b
  factors_forth {m = m} factor_prefix r s o d = factor_forth f classes m s o d
  factors_forth {m = m} factor_optional atomic_only s o d = optional_forth f classes m (λ s. atomic) s o d
  factors_forth {m = m} factor_optional_compound compound_only s o d = optional_forth f classes m (λ s. compound_atomic) s o d
  factors_forth {m = m} factor_absorbed r s o d = unreachable_forth f classes m s o d

  pub factors_back : {y : RuleType} {m : Mode} {a b : Expression} → Factors y a b → RunsIn y m → Implies f classes m b a
  factors_back {m = m} factor_prefix r s o d = factor_back f classes m s o d
  factors_back {m = m} factor_optional atomic_only s o d = optional_back f classes m (λ s. atomic) s o d
  factors_back {m = m} factor_optional_compound compound_only s o d = optional_back f classes m (λ s. compound_atomic) s o d
  factors_back {m = m} factor_absorbed r s o d = unreachable_back f classes m s o d

-- all rewritings, over any grammar f in which names stand for the same strings
module _ (g f : Grammar) (classes : Classes) (free : KeepsAny f) (known : (c : Expression) (ts : List Text) → Strings g c ts → Strings f c ts) where
  pub forth : {y : RuleType} {m : Mode} {a b : Expression} → Rewrites g y a b → RunsIn y m → Implies f classes m a b
  forth (by_rotating w) r s o d = rotates_forth f classes w s o d
  forth (by_unrolling w) r s o d = unrolls_forth f classes w s o d
  forth (by_skipping (skip_until {c = c} {ts = ts} h)) atomic_only s o d = both_do f classes _ (skip_does f classes free (known c ts h)) (λ s. skip) s o d
  forth (by_joining w) r s o d = joins_forth f classes w r s o d
  forth (by_factoring w) r s o d = factors_forth f classes w r s o d

  pub back : {y : RuleType} {m : Mode} {a b : Expression} → Rewrites g y a b → RunsIn y m → Implies f classes m b a
  back (by_rotating w) r s o d = rotates_back f classes w s o d
  back (by_unrolling w) r s o d = unrolls_back f classes w s o d
  back (by_skipping (skip_until {c = c} {ts = ts} h)) atomic_only s o d = both_do f classes _ (λ s. skip) (skip_does f classes free (known c ts h)) s o d
  back (by_joining w) r s o d = joins_back f classes w r s o d
  back (by_factoring w) r s o d = factors_back f classes w r s o d

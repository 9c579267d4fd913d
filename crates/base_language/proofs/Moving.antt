-- A success that takes nothing is that of a `IsNullable` expression.
use Rattle.std.proofs.Common.{◌≡◌, ◌⊎◌, inl, inr, ℕ, zero, suc, ◌-◌, ◌<◌, ◌≤◌, min, List, [], ◌∷◌, ◌++◌, Bool, true, false, if◌then◌else◌, Option, Some, None, refl, sym, ◌∙◌, subst, length, drop, replicate, nat_eq, bytes_eq, arith, length-drop}
use Rattle.std.proofs.lemmas.Slice.Eq.{bytes_eq-Decides}
use Rattle.std.specs.Char.{eq_ignore_ascii_case}
use Rattle.base_language.specs.Language.Expression.{Grammar, Expression, Str, Insens, Ident, PeekSlice, Seq, Opt, Rep, RepOnce, RepExact, RepMin, RepMinMax, Rule, rule_of, whitespace, comment}
use Rattle.base_language.specs.Language.State.{Classes, Mode, NonAtomicMode, AtomicMode, CompoundAtomicMode, Between, State, Trees, None', Outcome, Success, Failure, moved}
use Rattle.base_language.specs.Language.Text.{Text}
use Rattle.base_language.specs.Language.Matching.{begins, text_outcome, character_outcome, starts_in, newline_outcome, end_outcome, builtin_outcome, other_outcome, named_outcome, range_set, distance}
use Rattle.base_language.specs.Language.Builtins.{Builtin, One, Property, Newline, Soi, Eoi, Peek, Pop, Drop, PeekAll, PopAll, builtin_of, builtins, property_names, looked_up, Named, is_one_of, binary_properties, general_categories, scripts}
use Rattle.base_language.specs.Language.Meaning.{Does, Task, Run, Turns, Skipping, str, insens, range, slice, skip, call, other, pos_pred, neg_pred, push, restore, seq, seq_first, seq_second, left, right, opt, opt_none, rep_none, turn, turn_none, rep_exact, rep_max, rep_min_max, skips, atomic, compound_atomic, between, ahead, not_ahead, pushed, with_token, in_sequence, exactly, at_least, from_to, skipped, rep, rep_once, rep_min, push_literal, tag}
use native.Mathlib.Nat.{suc-min-suc}
use Rattle.base_language.specs.Language.Expression.{Part, whole, of_seq_left, of_seq_right, of_choice_left, of_choice_right, of_opt, of_rep, of_rep_once, of_rep_exact, of_rep_min, of_rep_max, of_rep_min_max, of_push, of_restore, of_tag}
use Rattle.base_language.specs.Language.WellFormed.{IsNullable, nullable_str, nullable_insens, nullable_soi, nullable_eoi, nullable_call, nullable_pos_pred, nullable_neg_pred, nullable_opt, nullable_rep, nullable_rep_max, nullable_seq, nullable_left, nullable_right, nullable_rep_once, nullable_push, nullable_exact_zero, nullable_exact, nullable_min_zero, nullable_min, nullable_min_max_zero, nullable_min_max, nullable_skip, nullable_restore, IsPlainBuiltin, nullable_push_literal, nullable_tag}
use Rattle.base_language.proofs.Basics.{same_some}

-- from i characters to j: fewer, or as many and P
abbrev pub Goes : Type 0 → ℕ → ℕ → Type 0
Goes P i j = (j < i) ⊎ (P × (j ≡ i))

goes_on : {P Q : Type 0} {i j k : ℕ} → Goes P i j → Goes Q j k → Goes (P × Q) i k
goes_on (inl h) (inl l) = inl (omega arith)
goes_on (inl h) (inr q) = let l = q.1 in inl (omega arith)
goes_on (inr p) (inl l) = let h = p.1 in inl (omega arith)
goes_on (inr p) (inr q) = inr ((p.0, q.0), q.1 ∙ p.1)

goes_as : {P Q : Type 0} {i j : ℕ} → (P → Q) → Goes P i j → Goes Q i j
goes_as f (inl h) = inl h
goes_as f (inr p) = inr (f p.0, p.1)

pub goes_down : {P : Type 0} {i j : ℕ} → Goes P i j → j ≤ i
goes_down (inl h) = omega arith
goes_down (inr p) = let h = p.1 in omega arith

-- a number of characters of a state
abbrev pub left_of : State → ℕ
left_of s = length s.rest

pub data Took (P : Type 0) (s : State) : Outcome → Type 0 where
  failed : Took P s Failure
  took : {t : State} {us : Trees} → Goes P (left_of s) (left_of t) → Took P s (Success t us)

took_as : {P Q : Type 0} {s : State} {o : Outcome} → (P → Q) → Took P s o → Took Q s o
took_as f failed = failed
took_as f (took h) = took (goes_as f h)

pub goes : {P : Type 0} {s t : State} {us : Trees} → Took P s (Success t us) → Goes P (left_of s) (left_of t)
goes (took h) = h

token_took : {P : Type 0} {s : State} {o : Outcome} (r : Rule) (m : Mode) → Took P s o → Took P s (with_token r m s o)
token_took r m failed = failed
token_took r m (took h) = took h

pushed_took : {P : Type 0} {s : State} {o : Outcome} → Took P s o → Took P s (pushed s o)
pushed_took failed = failed
pushed_took (took h) = took h

ahead_took : {P : Type 0} {s : State} (o : Outcome) → P → Took P s (ahead s o)
ahead_took Failure p = failed
ahead_took (Success t us) p = took (inr (p, refl))

not_ahead_took : {P : Type 0} {s : State} (o : Outcome) → P → Took P s (not_ahead s o)
not_ahead_took Failure p = took (inr (p, refl))
not_ahead_took (Success t us) p = failed

goes_drop : {P : Type 0} (n : ℕ) (u : Text) → P → Goes P (length u) (length (drop n u))
goes_drop zero u p = inr (p, refl)
goes_drop (suc n) [] p = inr (p, refl)
goes_drop (suc n) (c ∷ u) p = let e = length-drop n u in inl (omega arith)

-- literals and classes
else_took : {P : Type 0} (b : Bool) (n : ℕ) (s : State) (o : Outcome) → (b ≡ true → length (drop n s.rest) < length s.rest) → Took P s o → Took P s (if b then Success (moved n s) None' else o)
else_took true n s o h d = took (inl (h refl))
else_took false n s o h d = d

begins_takes : (alike : ℕ → ℕ → Bool) (c : ℕ) (t u : Text) → begins alike (c ∷ t) u ≡ true → length (drop (suc (length t)) u) < length u
begins_takes alike c t [] h = cc
begins_takes alike c t (d ∷ u) h = let e = length-drop (length t) u in omega arith

text_took : {P : Type 0} (alike : ℕ → ℕ → Bool) (t : Text) (s : State) → (t ≡ [] → P) → Took P s (text_outcome alike t s)
text_took alike [] s p = took (inr (p refl, refl))
text_took alike (c ∷ t) s p = else_took (begins alike (c ∷ t) s.rest) (suc (length t)) s Failure (begins_takes alike c t s.rest) failed

starts_takes : (set : ℕ → Bool) (u : Text) → starts_in set u ≡ true → length (drop 1 u) < length u
starts_takes set [] h = cc
starts_takes set (c ∷ u) h = omega arith

one_took : {P : Type 0} (set : ℕ → Bool) (s : State) → Took P s (character_outcome set s)
one_took set s = else_took (starts_in set s.rest) 1 s Failure (starts_takes set s.rest) failed

newline_took : {P : Type 0} (s : State) → Took P s (newline_outcome s)
newline_took {P} s =
    else_took (begins nat_eq (10 ∷ []) s.rest) 1 s _ (begins_takes nat_eq 10 [] s.rest)
    (else_took (begins nat_eq (13 ∷ 10 ∷ []) s.rest) 2 s _ (begins_takes nat_eq 13 (10 ∷ []) s.rest)
    (text_took nat_eq (13 ∷ []) s (λ e. cc)))

stays : {P : Type 0} (b : Bool) (s : State) → P → Took P s (if b then Success s None' else Failure)
stays true s p = took (inr (p, refl))
stays false s p = failed

end_took : {P : Type 0} (m : Mode) (u : Text) (s : State) → P → Took P s (end_outcome m u s)
end_took m [] s p = took (inr (p, refl))
end_took m (c ∷ u) s p = failed

-- a name of a builtin that takes nothing is `SOI` or `EOI`
module _ (g : Grammar) where
  abbrev Stays : Text → Builtin → Type 0
  Stays n (One set) = Unit {0}
  Stays n (Property k) = Unit {0}
  Stays n Newline = Unit {0}
  Stays n Soi = IsNullable g (Ident n)
  Stays n Eoi = IsNullable g (Ident n)
  Stays n Peek = Unit {0}
  Stays n Pop = Unit {0}
  Stays n Drop = Unit {0}
  Stays n PeekAll = Unit {0}
  Stays n PopAll = Unit {0}

  abbrev Each : List Named → Type 0
  Each [] = Unit {0}
  Each (b ∷ bs) = Stays b.name b.builtin × Each bs

  each_stays : Each builtins
  unfolding builtins
  each_stays = (tt, (nullable_soi, (nullable_eoi, (tt, (tt, (tt, (tt, (tt, (tt, (tt, (tt, (tt, (tt, (tt, (tt, (tt, (tt, (tt, (tt, tt)))))))))))))))))))

  found : (bs : List Named) (n : Text) (b : Builtin) → Each bs → looked_up bs n ≡ Some b → Stays n b
  found [] n b e h = last (is_one_of property_names n) h
    where
      last : (c : Bool) → (if c then Some (Property n) else None) ≡ Some b → Stays n b
      last true h = subst (λ b. Stays n b) (same_some h) tt
      last false h = cc
  found (q ∷ bs) n b e h = go (bytes_eq q.name n) refl h (λ h. found bs n b e.1 h)
    where
      go : (c : Bool) → bytes_eq q.name n ≡ c → (if c then Some q.builtin else looked_up bs n) ≡ Some b → (looked_up bs n ≡ Some b → Stays n b) → Stays n b
      go true i h f = subst (λ b. Stays n b) (same_some h) (subst (λ n. Stays n q.builtin) ((bytes_eq-Decides q.name n).0 i) e.0)
      go false i h f = f h

  module _ (classes : Classes) where
    builtin_took : (m : Mode) (n : Text) (b : Builtin) (s : State) (o : Outcome) → IsPlainBuiltin b → Stays n b → builtin_outcome classes m b s ≡ Some o → Took (IsNullable g (Ident n)) s o
    builtin_took m n (One set) s o i p h = subst (Took (IsNullable g (Ident n)) s) (same_some h) (one_took set s)
    builtin_took m n (Property k) s o i p h = subst (Took (IsNullable g (Ident n)) s) (same_some h) (one_took (classes k) s)
    builtin_took m n Newline s o i p h = subst (Took (IsNullable g (Ident n)) s) (same_some h) (newline_took s)
    builtin_took m n Soi s o i p h = subst (Took (IsNullable g (Ident n)) s) (same_some h) (stays (nat_eq s.position 0) s p)
    builtin_took m n Eoi s o i p h = subst (Took (IsNullable g (Ident n)) s) (same_some h) (end_took m s.rest s p)
    builtin_took m n Peek s o i p h = absurd i
    builtin_took m n Pop s o i p h = absurd i
    builtin_took m n Drop s o i p h = absurd i
    builtin_took m n PeekAll s o i p h = absurd i
    builtin_took m n PopAll s o i p h = absurd i

    named_took : (m : Mode) (n : Text) (s : State) (o : Outcome) → ((b : Builtin) → builtin_of n ≡ Some b → IsPlainBuiltin b) → named_outcome classes m (builtin_of n) s ≡ Some o → Took (IsNullable g (Ident n)) s o
    named_took m n s o i h = go (builtin_of n) refl h
      where
        go : (q : Option Builtin) → builtin_of n ≡ q → named_outcome classes m q s ≡ Some o → Took (IsNullable g (Ident n)) s o
        go None e h = cc
        go (Some b) e h = builtin_took m n b s o (i b e) (found builtins n b each_stays e) h

    other_took : (m : Mode) (n : Text) (s : State) (o : Outcome) → ((b : Builtin) → builtin_of n ≡ Some b → IsPlainBuiltin b) → other_outcome classes m n s ≡ Some o → Took (IsNullable g (Ident n)) s o
    other_took Between n s o i h = subst (Took (IsNullable g (Ident n)) s) (same_some h) failed
    other_took NonAtomicMode n s o i h = named_took NonAtomicMode n s o i h
    other_took AtomicMode n s o i h = named_took AtomicMode n s o i h
    other_took CompoundAtomicMode n s o i h = named_took CompoundAtomicMode n s o i h

  nullable_first : (e : Expression) (es : List Expression) → IsNullable g (in_sequence (e ∷ es)) → IsNullable g e
  nullable_first e [] n = n
  nullable_first e (f ∷ fs) (nullable_seq a b) = a

  pub nullable_once : (e : Expression) → IsNullable g (Seq e (Rep e)) → IsNullable g (RepOnce e)
  nullable_once e (nullable_seq a b) = nullable_rep_once a

  pub nullable_copies : (e : Expression) (i : ℕ) → IsNullable g (exactly e i) → IsNullable g (RepExact e i)
  nullable_copies e zero n = nullable_exact_zero
  nullable_copies e (suc i) n = nullable_exact (nullable_first e (replicate i e) n)

  pub nullable_at_least : (e : Expression) (i : ℕ) → IsNullable g (at_least e i) → IsNullable g (RepMin e i)
  nullable_at_least e zero n = nullable_min_zero
  nullable_at_least e (suc i) n = nullable_min (nullable_first e (replicate i e ++ Rep e ∷ []) n)

  pub nullable_from_to : (e : Expression) (i j : ℕ) → 0 < j → IsNullable g (from_to e i j) → IsNullable g (RepMinMax e i j)
  nullable_from_to e zero j h n = nullable_min_max_zero
  nullable_from_to e (suc i) zero h n = absurd (omega arith)
  nullable_from_to e (suc i) (suc j) h n =
      nullable_min_max (nullable_first e (replicate (min i j) e ++ replicate (suc j - suc i) (Opt e))
      (subst (λ k. IsNullable g (in_sequence (replicate k e ++ replicate (suc j - suc i) (Opt e)))) (suc-min-suc i j) n))

-- what holds of all copies holds of them in sequence
pub data Each' (C : Expression → Type 0) : List Expression → Type 0 where
  no_more : Each' C []
  also : {e : Expression} {es : List Expression} → C e → Each' C es → Each' C (e ∷ es)

module _ (C : Expression → Type 0) where
  pub each_copy : {e : Expression} (i : ℕ) → C e → Each' C (replicate i e)
  each_copy zero c = no_more
  each_copy (suc i) c = also c (each_copy i c)

  pub each_of_both : {es fs : List Expression} → Each' C es → Each' C fs → Each' C (es ++ fs)
  each_of_both no_more d = d
  each_of_both (also c e) d = also c (each_of_both e d)

  pub in_all : C (Str []) → ((a b : Expression) → C a → C b → C (Seq a b)) → {es : List Expression} → Each' C es → C (in_sequence es)
  in_all z f no_more = z
  in_all z f (also c no_more) = c
  in_all z f (also c (also d e)) = f _ _ c (in_all z f (also d e))

module _ (g : Grammar) (classes : Classes) where
  -- no part reads the stack, and the counts are right
  abbrev pub CalmHere : Expression → Type 0
  CalmHere (Ident n) = rule_of g n ≡ None → (b : Builtin) → builtin_of n ≡ Some b → IsPlainBuiltin b
  CalmHere (PeekSlice i j) = ⊥
  CalmHere (RepMinMax e i j) = 0 < j
  CalmHere _ = Unit {0}

  abbrev pub Calm : Expression → Type 0
  Calm e = (p : Expression) → Part e p → CalmHere p

  abbrev pub CalmTask : Task → Type 0
  CalmTask (Run m e) = Calm e
  CalmTask (Turns m e) = Calm e
  CalmTask (Skipping m) = Unit {0}

  abbrev pub Takes : Task → Type 0
  Takes (Run m e) = IsNullable g e
  Takes (Turns m e) = Unit {0}
  Takes (Skipping m) = Unit {0}

  pub calm_empty : Calm (Str [])
  calm_empty p whole = tt

  pub calm_seq : (a b : Expression) → Calm a → Calm b → Calm (Seq a b)
  calm_seq a b c d p whole = tt
  calm_seq a b c d p (of_seq_left h) = c p h
  calm_seq a b c d p (of_seq_right h) = d p h

  pub calm_opt : {e : Expression} → Calm e → Calm (Opt e)
  calm_opt c p whole = tt
  calm_opt c p (of_opt h) = c p h

  pub calm_rep : {e : Expression} → Calm e → Calm (Rep e)
  calm_rep c p whole = tt
  calm_rep c p (of_rep h) = c p h

  calm_all : {es : List Expression} → Each' Calm es → Calm (in_sequence es)
  calm_all e = in_all Calm calm_empty calm_seq e

  calm_name : {n : Text} → builtin_of n ≡ None → Calm (Ident n)
  calm_name h p whole = λ e b i. cc

  pub calm_skipped : Calm skipped
  unfolding whitespace comment builtins property_names general_categories binary_properties scripts
  calm_skipped = calm_seq _ _ (calm_rep (calm_name refl)) (calm_rep (calm_seq _ _ (calm_name refl) (calm_rep (calm_name refl))))

  module _ (bodies : (n : Text) (r : Rule) → rule_of g n ≡ Some r → Calm r.body) where
    pub moves : {k : Task} {s : State} {o : Outcome} → Does g classes k s o → CalmTask k → Took (Takes k) s o
    moves (str {t = t} {s = s}) c = text_took nat_eq t s (λ e. subst (λ t. IsNullable g (Str t)) (sym e) nullable_str)
    moves (insens {t = t} {s = s}) c = text_took eq_ignore_ascii_case t s (λ e. subst (λ t. IsNullable g (Insens t)) (sym e) nullable_insens)
    moves (range {a = a} {b = b} {s = s}) c = one_took (range_set a b) s
    moves slice c = absurd (c _ whole)
    moves (skip {ts = ts} {s = s}) c = took (goes_drop (distance ts s.rest) s.rest nullable_skip)
    moves (call {m = m} {n = n} {s = s} {r = r} h d) c = token_took r m (took_as (nullable_call h) (moves d (bodies n r h)))
    moves (other {m = m} {n = n} {s = s} {o = o} e h) c = other_took g classes m n s o (c _ whole e) h
    moves (pos_pred {s = s} {o = o} d) c = ahead_took o nullable_pos_pred
    moves (neg_pred {s = s} {o = o} d) c = not_ahead_took o nullable_neg_pred
    moves (push d) c = pushed_took (took_as nullable_push (moves d (λ p h. c p (of_push h))))
    moves push_literal c = took (inr (nullable_push_literal, refl))
    moves (tag d) c = took_as nullable_tag (moves d (λ p h. c p (of_tag h)))
    moves (restore d) c = took_as nullable_restore (moves d (λ p h. c p (of_restore h)))
    moves (seq a k b) c = took (goes_as (λ x. nullable_seq x.0.0 x.1) (goes_on (goes_on (goes (moves a (λ p h. c p (of_seq_left h)))) (goes (moves k tt))) (goes (moves b (λ p h. c p (of_seq_right h))))))
    moves (seq_first a) c = failed
    moves (seq_second a k b) c = failed
    moves (left a) c = took_as nullable_left (moves a (λ p h. c p (of_choice_left h)))
    moves (right a b) c = took_as nullable_right (moves b (λ p h. c p (of_choice_right h)))
    moves (opt a) c = took_as (λ n. nullable_opt) (moves a (λ p h. c p (of_opt h)))
    moves (opt_none a) c = took (inr (nullable_opt, refl))
    moves (rep {e = e} a b) c = let i : Calm e = λ p h. c p (of_rep h) in took (goes_as (λ x. nullable_rep) (goes_on (goes (moves a i)) (goes (moves b i))))
    moves (rep_none a) c = took (inr (nullable_rep, refl))
    moves (turn k a b) c = took (goes_as (λ x. tt) (goes_on (goes (moves k tt)) (goes_on (goes (moves a c)) (goes (moves b c)))))
    moves (turn_none k a) c = took (inr (tt, refl))
    moves (rep_once {e = e} d) c = let i : Calm e = λ p h. c p (of_rep_once h) in took_as (nullable_once g e) (moves d (calm_seq _ _ i (calm_rep i)))
    moves (rep_exact {e = e} {i = n} d) c = let i : Calm e = λ p h. c p (of_rep_exact h) in took_as (nullable_copies g e n) (moves d (calm_all (each_copy Calm n i)))
    moves (rep_min {e = e} {i = n} d) c = let i : Calm e = λ p h. c p (of_rep_min h) in took_as (nullable_at_least g e n) (moves d (calm_all (each_of_both Calm (each_copy Calm n i) (also (calm_rep i) no_more))))
    moves (rep_max {e = e} {i = n} d) c = let i : Calm e = λ p h. c p (of_rep_max h) in took_as (λ x. nullable_rep_max) (moves d (calm_all (each_copy Calm n (calm_opt i))))
    moves (rep_min_max {e = e} {i = l} {j = n} d) c = let i : Calm e = λ p h. c p (of_rep_min_max h) in took_as (nullable_from_to g e l n (c _ whole)) (moves d (calm_all (each_of_both Calm (each_copy Calm (min l n) i) (each_copy Calm (n - l) (calm_opt i)))))
    moves (skips d) c = took_as (λ x. tt) (moves d calm_skipped)
    moves atomic c = took (inr (tt, refl))
    moves compound_atomic c = took (inr (tt, refl))
    moves between c = took (inr (tt, refl))

-- The skipping leaves the stack alone, unless it meets a change of it.
use Rattle.std.proofs.Common.{◌≡◌, ◌⊎◌, inl, inr, ℕ, zero, suc, ◌-◌, min, List, [], ◌∷◌, ◌++◌, replicate, Bool, true, false, ◌||◌, is_some, if◌then◌else◌, Option, Some, None, refl, sym, ◌∙◌, ap, subst, nat_eq, length}
use Rattle.std.specs.Prelude.{⊤, ℤ}
use Rattle.std.specs.Char.{eq_ignore_ascii_case}
use Rattle.base_language.specs.Language.Expression.{Grammar, Expression, Ident, Seq, Opt, Rep, Rule, rule_of, whitespace, comment}
use Rattle.base_language.specs.Language.State.{Classes, Mode, NonAtomicMode, AtomicMode, CompoundAtomicMode, Between, State, Trees, None', Outcome, Success, Failure, moved}
use Rattle.base_language.specs.Language.Text.{Text}
use Rattle.base_language.specs.Language.Matching.{begins, text_outcome, character_outcome, starts_in, newline_outcome, end_outcome, slice_at, slice_outcome, place, end_place, builtin_outcome, other_outcome, named_outcome, peek_outcome, range_set}
use Rattle.base_language.specs.Language.Builtins.{Builtin, One, Property, Newline, Soi, Eoi, Peek, Pop, Drop, PeekAll, PopAll, builtin_of}
use Rattle.base_language.specs.Language.Meaning.{Does, Task, Run, Turns, Skipping, str, insens, range, slice, skip, call, other, pos_pred, neg_pred, push, restore, seq, seq_first, seq_second, left, right, opt, opt_none, rep, rep_none, turn, turn_none, rep_once, rep_exact, rep_min, rep_max, rep_min_max, skips, atomic, compound_atomic, between, ahead, not_ahead, with_token, in_sequence, exactly, at_least, at_most, from_to, skipped, push_literal, tag}
use Rattle.base_language.proofs.Basics.{same_some}
use Rattle.front_stack_domain.specs.Reports.{AltersStack, by_push, by_builtin, by_rule, in_left, in_right, in_first, in_second, in_opt, in_rep, in_rep_once, in_rep_exact, in_rep_min, in_rep_max, in_rep_min_max, in_restore, TakesEntries, SkippingAltersStack, skips_in, by_push_literal, in_tag}
use Rattle.front_stack_domain.proofs.Walking.{Kept}

abbrev pub Keeps : State → Outcome → Type 0
Keeps s (Success t us) = t.stack ≡ s.stack
Keeps s Failure = ⊤

else_keeps : (b : Bool) (n : ℕ) (s : State) (o : Outcome) → Keeps s o → Keeps s (if b then Success (moved n s) None' else o)
else_keeps true n s o k = refl
else_keeps false n s o k = k

pub text_keeps : (alike : ℕ → ℕ → Bool) (t : Text) (s : State) → Keeps s (text_outcome alike t s)
text_keeps alike t s = else_keeps (begins alike t s.rest) _ s Failure tt

pub one_keeps : (set : ℕ → Bool) (s : State) → Keeps s (character_outcome set s)
one_keeps set s = else_keeps (starts_in set s.rest) 1 s Failure tt

newline_keeps : (s : State) → Keeps s (newline_outcome s)
newline_keeps s =
    else_keeps (begins nat_eq (10 ∷ []) s.rest) 1 s _ (else_keeps (begins nat_eq (13 ∷ 10 ∷ []) s.rest) 2 s _ (text_keeps nat_eq (13 ∷ []) s))

place_keeps : (b : Bool) (s : State) → Keeps s (if b then Success s None' else Failure)
place_keeps true s = refl
place_keeps false s = tt

end_keeps : (m : Mode) (u : Text) (s : State) → Keeps s (end_outcome m u s)
end_keeps m [] s = refl
end_keeps m (c ∷ u) s = tt

slice_keeps : (i j : Option ℕ) (s : State) → Keeps s (slice_at i j s)
slice_keeps None j s = tt
slice_keeps (Some i) None s = tt
slice_keeps (Some i) (Some j) s = text_keeps nat_eq _ s

pub slices_keep : (i : ℤ) (j : Option ℤ) (s : State) → Keeps s (slice_outcome i j s)
slices_keep i j s = slice_keeps (place (length s.stack) i) (end_place (length s.stack) j) s

pub token_keeps : (r : Rule) (m : Mode) (s : State) (o : Outcome) → Keeps s o → Keeps s (with_token r m s o)
token_keeps r m s Failure k = tt
token_keeps r m s (Success t us) k = k

ahead_keeps : (s : State) (o : Outcome) → Keeps s (ahead s o)
ahead_keeps s Failure = tt
ahead_keeps s (Success t us) = refl

not_ahead_keeps : (s : State) (o : Outcome) → Keeps s (not_ahead s o)
not_ahead_keeps s Failure = refl
not_ahead_keeps s (Success t us) = tt

peek_keeps : (ts : List Text) (s : State) (o : Outcome) → peek_outcome ts s ≡ Some o → Keeps s o
peek_keeps [] s o h = cc
peek_keeps (t ∷ ts) s o h = subst (Keeps s) (same_some h) (text_keeps nat_eq t s)

pub builtin_keeps : (classes : Classes) (m : Mode) (b : Builtin) (s : State) (o : Outcome) → (TakesEntries b → ⊥) → builtin_outcome classes m b s ≡ Some o → Keeps s o
builtin_keeps classes m (One set) s o n h = subst (Keeps s) (same_some h) (one_keeps set s)
builtin_keeps classes m (Property k) s o n h = subst (Keeps s) (same_some h) (one_keeps (classes k) s)
builtin_keeps classes m Newline s o n h = subst (Keeps s) (same_some h) (newline_keeps s)
builtin_keeps classes m Soi s o n h = subst (Keeps s) (same_some h) (place_keeps _ s)
builtin_keeps classes m Eoi s o n h = subst (Keeps s) (same_some h) (end_keeps m s.rest s)
builtin_keeps classes m Peek s o n h = peek_keeps s.stack s o h
builtin_keeps classes m Pop s o n h = absurd (n tt)
builtin_keeps classes m Drop s o n h = absurd (n tt)
builtin_keeps classes m PeekAll s o n h = subst (Keeps s) (same_some h) (text_keeps nat_eq _ s)
builtin_keeps classes m PopAll s o n h = absurd (n tt)

named_keeps : (classes : Classes) (m : Mode) (q : Option Builtin) (s : State) (o : Outcome) → ((b : Builtin) → q ≡ Some b → TakesEntries b → ⊥) → named_outcome classes m q s ≡ Some o → Keeps s o
named_keeps classes m None s o n h = cc
named_keeps classes m (Some b) s o n h = builtin_keeps classes m b s o (n b refl) h

other_keeps : (classes : Classes) (m : Mode) (n : Text) (s : State) (o : Outcome) → ((b : Builtin) → builtin_of n ≡ Some b → TakesEntries b → ⊥) → other_outcome classes m n s ≡ Some o → Keeps s o
other_keeps classes Between n s o c h = subst (Keeps s) (same_some h) tt
other_keeps classes NonAtomicMode n s o c h = named_keeps classes NonAtomicMode (builtin_of n) s o c h
other_keeps classes AtomicMode n s o c h = named_keeps classes AtomicMode (builtin_of n) s o c h
other_keeps classes CompoundAtomicMode n s o c h = named_keeps classes CompoundAtomicMode (builtin_of n) s o c h

module _ (g : Grammar) where
  abbrev SomeChange : List Expression → Type 0
  SomeChange [] = ⊥
  SomeChange (e ∷ es) = AltersStack g e ⊎ SomeChange es

  some_change : (es : List Expression) → AltersStack g (in_sequence es) → SomeChange es
  some_change [] c = elim c [ ]
  some_change (e ∷ []) c = inl c
  some_change (e ∷ f ∷ es) (in_left c) = inl c
  some_change (e ∷ f ∷ es) (in_right c) = inr (some_change (f ∷ es) c)

  of_copies : (n : ℕ) (e : Expression) → SomeChange (replicate n e) → AltersStack g e
  of_copies zero e c = absurd c
  of_copies (suc n) e (inl c) = c
  of_copies (suc n) e (inr c) = of_copies n e c

  of_both : (es fs : List Expression) → SomeChange (es ++ fs) → SomeChange es ⊎ SomeChange fs
  of_both [] fs c = inr c
  of_both (e ∷ es) fs (inl c) = inl (inl c)
  of_both (e ∷ es) fs (inr c) = elim (of_both es fs c) [ inl d ↦ inl (inr d) | inr d ↦ inr d ]

  of_opt : {e : Expression} → AltersStack g (Opt e) → AltersStack g e
  of_opt (in_opt c) = c

  of_rep : {e : Expression} → AltersStack g (Rep e) → AltersStack g e
  of_rep (in_rep c) = c

  of_once : {e : Expression} → AltersStack g (Seq e (Rep e)) → AltersStack g e
  of_once (in_left c) = c
  of_once (in_right c) = of_rep c

  of_exactly : (e : Expression) (n : ℕ) → AltersStack g (exactly e n) → AltersStack g e
  of_exactly e n c = of_copies n e (some_change _ c)

  of_at_least : (e : Expression) (n : ℕ) → AltersStack g (at_least e n) → AltersStack g e
  of_at_least e n c = elim (of_both (replicate n e) (Rep e ∷ []) (some_change _ c)) [ inl d ↦ of_copies n e d | inr d ↦ elim d [ inl f ↦ of_rep f | inr f ↦ absurd f ] ]

  of_at_most : (e : Expression) (n : ℕ) → AltersStack g (at_most e n) → AltersStack g e
  of_at_most e n c = of_opt (of_copies n (Opt e) (some_change _ c))

  of_from_to : (e : Expression) (i j : ℕ) → AltersStack g (from_to e i j) → AltersStack g e
  of_from_to e i j c = elim (of_both (replicate (min i j) e) (replicate (j - i) (Opt e)) (some_change _ c)) [ inl d ↦ of_copies (min i j) e d | inr d ↦ of_opt (of_copies (j - i) (Opt e) d) ]

  abbrev TaskChanges : Task → Type 0
  TaskChanges (Run m e) = AltersStack g e
  TaskChanges (Turns m e) = AltersStack g e
  TaskChanges (Skipping m) = AltersStack g skipped

  of_skipped : AltersStack g skipped → SkippingAltersStack g
  of_skipped (in_left (in_rep c)) = inl c
  of_skipped (in_right (in_rep (in_left c))) = inr c
  of_skipped (in_right (in_rep (in_right (in_rep c)))) = inl c

  module _ (classes : Classes) (calm : AltersStack g skipped → ⊥) where
    unchanged : {k : Task} {s : State} {o : Outcome} → Does g classes k s o → (TaskChanges k → ⊥) → Keeps s o
    unchanged (str {t = t} {s = s}) c = text_keeps nat_eq t s
    unchanged (insens {t = t} {s = s}) c = text_keeps eq_ignore_ascii_case t s
    unchanged (range {a = a} {b = b} {s = s}) c = one_keeps (range_set a b) s
    unchanged (slice {i = i} {j = j} {s = s}) c = slices_keep i j s
    unchanged skip c = refl
    unchanged (call {m = m} {s = s} {o = o} {r = r} h d) c = token_keeps r m s o (unchanged d (λ x. c (by_rule h x)))
    unchanged (other {m = m} {n = n} {s = s} {o = o} e h) c = other_keeps classes m n s o (λ b i x. c (by_builtin e i x)) h
    unchanged (pos_pred {s = s} {o = o} d) c = ahead_keeps s o
    unchanged (neg_pred {s = s} {o = o} d) c = not_ahead_keeps s o
    unchanged (push d) c = absurd (c by_push)
    unchanged push_literal c = absurd (c by_push_literal)
    unchanged (tag d) c = unchanged d (λ x. c (in_tag x))
    unchanged (restore d) c = unchanged d (λ x. c (in_restore x))
    unchanged (seq a k b) c = unchanged b (λ x. c (in_right x)) ∙ unchanged k calm ∙ unchanged a (λ x. c (in_left x))
    unchanged (seq_first a) c = tt
    unchanged (seq_second a k b) c = tt
    unchanged (left a) c = unchanged a (λ x. c (in_first x))
    unchanged (right a b) c = unchanged b (λ x. c (in_second x))
    unchanged (opt a) c = unchanged a (λ x. c (in_opt x))
    unchanged (opt_none a) c = refl
    unchanged (rep a b) c = unchanged b (λ x. c (in_rep x)) ∙ unchanged a (λ x. c (in_rep x))
    unchanged (rep_none a) c = refl
    unchanged (turn k a b) c = unchanged b c ∙ unchanged a c ∙ unchanged k calm
    unchanged (turn_none k a) c = refl
    unchanged (rep_once d) c = unchanged d (λ x. c (in_rep_once (of_once x)))
    unchanged (rep_exact {e = e} {i = i} d) c = unchanged d (λ x. c (in_rep_exact (of_exactly e i x)))
    unchanged (rep_min {e = e} {i = i} d) c = unchanged d (λ x. c (in_rep_min (of_at_least e i x)))
    unchanged (rep_max {e = e} {i = i} d) c = unchanged d (λ x. c (in_rep_max (of_at_most e i x)))
    unchanged (rep_min_max {e = e} {i = i} {j = j} d) c = unchanged d (λ x. c (in_rep_min_max (of_from_to e i j x)))
    unchanged (skips d) c = unchanged d c
    unchanged atomic c = refl
    unchanged compound_atomic c = refl
    unchanged between c = refl

  none_defined : (q : Option Rule) → is_some q ≡ false → q ≡ None
  none_defined None h = refl
  none_defined (Some r) h = cc

  neither : (a b : Bool) → (a || b) ≡ false → (a ≡ false) × (b ≡ false)
  neither true b h = cc
  neither false b h = (refl, h)

  -- with nothing to skip, the skipping takes nothing
  module _ (classes : Classes) (blank : rule_of g whitespace ≡ None) (remark : rule_of g comment ≡ None) where
    fails : {n : Text} {s : State} {o : Outcome} → rule_of g n ≡ None → Does g classes (Run Between (Ident n)) s o → o ≡ Failure
    fails e (call h d) = cc
    fails e (other f h) = sym (same_some h)

    rests : {e : Expression} {s : State} {o : Outcome} → ((t : State) (p : Outcome) → Does g classes (Run Between e) t p → p ≡ Failure) → Does g classes (Run Between (Rep e)) s o → o ≡ Success s None'
    rests f (rep_none d) = refl
    rests f (rep d k) = let h = f _ _ d in cc

    first_fails : {a b : Expression} {s : State} {o : Outcome} → ((t : State) (p : Outcome) → Does g classes (Run Between a) t p → p ≡ Failure) → Does g classes (Run Between (Seq a b)) s o → o ≡ Failure
    first_fails f (seq_first d) = refl
    first_fails f (seq_second a k b) = refl
    first_fails f (seq a k b) = let h = f _ _ a in cc

    state_same : {s t : State} {us vs : Trees} → Success s us ≡ Success t vs → s ≡ t
    state_same h = cc

    goes_nowhere : {a b : Expression} {s : State} {o : Outcome}
        → ((t : State) (p : Outcome) → Does g classes (Run Between a) t p → p ≡ Failure) → ((t : State) (p : Outcome) → Does g classes (Run Between b) t p → p ≡ Failure)
        → Does g classes (Run Between (Seq (Rep a) (Rep b))) s o → Kept false s o
    goes_nowhere f h (seq_first d) = tt
    goes_nowhere f h (seq_second a k b) = tt
    goes_nowhere f h (seq {s = s} {t = t} {u = u} {v = v} a between b) =
        let x : t ≡ s = state_same (rests f a) in
        let y : v ≡ t = state_same (rests h b) in
        (ap (λ z. z.stack) (y ∙ x), λ q. ap (λ z. z.rest) (y ∙ x))

    quiet : {m : Mode} {s : State} {o : Outcome} → Does g classes (Skipping m) s o → Kept false s o
    quiet (skips d) = goes_nowhere (λ t p d. fails blank d) (λ t p d. first_fails (λ t p d. fails remark d) d) d
    quiet atomic = (refl, λ q. refl)
    quiet compound_atomic = (refl, λ q. refl)
    quiet between = (refl, λ q. refl)

  module _ (classes : Classes) (calm : SkippingAltersStack g → ⊥) where
    unseen : {m : Mode} {s : State} {o : Outcome} → Does g classes (Skipping m) s o → (b : Bool) → skips_in g ≡ b → Kept b s o
    unseen {m} {s} {o} d true e = go o (unchanged classes (λ c. calm (of_skipped c)) d (λ c. calm (of_skipped c)))
      where
        go : (o : Outcome) → Keeps s o → Kept true s o
        go Failure k = tt
        go (Success t us) k = (k, λ q. cc)
    unseen d false e =
        let n = neither (is_some (rule_of g whitespace)) (is_some (rule_of g comment)) e in
        quiet classes (none_defined (rule_of g whitespace) n.0) (none_defined (rule_of g comment) n.1) d

    pub kept : (m : Mode) (s : State) (o : Outcome) → Does g classes (Skipping m) s o → Kept (skips_in g) s o
    kept m s o d = unseen d (skips_in g) refl

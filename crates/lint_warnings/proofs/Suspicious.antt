-- Parts of sequences, and what suspect nodes do.
use Rattle.std.proofs.Common.{◌≡◌, ◌∙◌, ℕ, zero, suc, ◌+◌, ◌-◌, ◌<◌, ◌≤◌, [], ◌∷◌, ◌++◌, Bool, true, Some, None, if◌then◌else◌, refl, sym, ap, subst, append-nil, codes, nat_eq, arith}
use Rattle.std.specs.Prelude.{◌↔◌, min, replicate}
use Rattle.std.specs.Char.{eq_ignore_ascii_case, len_utf8}
use Rattle.std.proofs.lemmas.Bool.{and_parts}
use Rattle.std.proofs.lemmas.List.Sums.{sum_by-append, sum_by-cons}
use Rattle.std.proofs.lemmas.Slice.Eq.{bytes_eq-Decides}
use Rattle.std.proofs.lemmas.Str.{len_utf8_bounds}
use Rattle.base_language.specs.Language.Builtins.{builtins}
use Rattle.base_language.specs.Language.Expression.{Expression, Str, Insens, Range, Ident, Grammar, rule_of}
use Rattle.base_language.specs.Language.Expression as bare
use Rattle.base_language.specs.Language.Matching.{character_outcome, other_outcome, range_set, starts_in, text_outcome}
use Rattle.base_language.specs.Language.Meaning.{Does, Turns, Skipping, Matches, str, insens, range, other, pos_pred, neg_pred, seq, seq_first, seq_second, opt, opt_none, rep, rep_none, turn, turn_none, rep_once, rep_exact, rep_max, rep_min_max, ahead, not_ahead, in_sequence, exactly, from_to}
use Rattle.base_language.specs.Language.Places.{FitsIn, Nested, IsStateIn}
use Rattle.base_language.specs.Language.State.{Classes, Mode, NonAtomicMode, AtomicMode, CompoundAtomicMode, Between, IsRuleMode, State, Trees, None', Tree, Outcome, Success, Failure, moved}
use Rattle.base_language.specs.Language.Text.{Text, size_of}
use Rattle.base_language.proofs.OneOutcome.{same}
use Rattle.base_language.proofs.TreesAreNested.{fits}
use Rattle.front_spanned.specs.Erasure.{without_spans}
use Rattle.front_spanned.specs.Nodes.{view_at}
use Rattle.front_spanned.specs.Spanned as spanned
use Rattle.front_spanned.specs.Spanned.{Span, Spanned, Leaf, One, Two}
use Rattle.front_spanned.specs.declared.node.ParserExpr.{ParserExpr}
use Rattle.front_spanned.specs.declared.node.ParserExpr as expr
use Rattle.front_spanned.specs.declared.node.ParserExpr.TheVariants as is
use Rattle.lint_warnings.specs.Suspects.{is_any, is_any_name, is_character, is_character_leaf, is_optional, is_unmatchable, repeats_any, takes_character, takes_rest}

-- what is no sequence is its last part, and its first
pub no_last_part : (t : Span) (e : ParserExpr) → ((x y : _) → e ≡ expr.Seq x y → ⊥) → takes_rest (view_at t e) ≡ repeats_any (view_at t e)
no_last_part t (is.Seq' p e s q f u) h = absurd (h _ _ refl)
no_last_part t _ h = refl

pub no_first_part : (t : Span) (e : ParserExpr) → ((x y : _) → e ≡ expr.Seq x y → ⊥) → takes_character (view_at t e) ≡ is_character (view_at t e)
no_first_part t (is.Seq' p e s q f u) h = absurd (h _ _ refl)
no_first_part t _ h = refl

-- counts
min_right : (m n : ℕ) → n < m → min m n ≡ n
min_right m n h = omega (arith, h)

less_none : (m n : ℕ) → n < m → n - m ≡ 0
less_none m n h = omega (arith, h)

pub reversed_exact : (e : Expression) (m n : ℕ) → n < m → from_to e m n ≡ exactly e n
reversed_exact e m n h = rw (min_right m n h, less_none m n h, append-nil) refl

-- a state at the end of its text
nested_up : (text : Text) (us : Trees) (i j : ℕ) → Nested text us i j → i ≤ j
nested_up text None' i j h = h
nested_up text (Tree r a b inner others) i j h =
    let f = h.0 in
    let x = nested_up text inner a b h.3 in
    let y = nested_up text others b j h.4 in
    omega arith

size_none : (t : Text) → size_of t ≤ 0 → t ≡ []
size_none [] h = refl
size_none (c ∷ t) h = let b = (len_utf8_bounds c).0 in let e = sum_by-cons len_utf8 c t in absurd (omega (arith, b, e, h))

pub still_empty : (text : Text) (s t : State) (us : Trees) → IsStateIn text s → FitsIn text s (Success t us) → s.rest ≡ [] → t.rest ≡ []
still_empty text s t us st fit e =
    let up = nested_up text us s.position t.position fit.1 in
    let whole : text ≡ st.front = st.split ∙ (ap (λ r. st.front ++ r) e ∙ append-nil st.front) in
    let here : s.position ≡ size_of text = st.size ∙ ap size_of (sym whole) in
    let there : size_of text ≡ size_of fit.0.front + size_of t.rest = ap size_of fit.0.split ∙ sum_by-append len_utf8 fit.0.front t.rest in
    let at : t.position ≡ size_of fit.0.front = fit.0.size in
    size_none t.rest (omega (arith, up, here, there, at))

abbrev any : Expression
any = Ident (codes "ANY")

to_any_name : (e : Expression) → is_any_name e ≡ true → e ≡ any
to_any_name (Ident n) h = ap Ident ((bytes_eq-Decides n (codes "ANY")).0 h)
to_any_name _ h = cc

to_any : (x : Spanned) → is_any x ≡ true → without_spans x ≡ any
to_any (Leaf p e) h = to_any_name e h
to_any _ h = cc

any_outcome : (classes : Classes) (m : Mode) (s : State) → IsRuleMode m → other_outcome classes m (codes "ANY") s ≡ Some (character_outcome (λ c. true) s)
unfolding builtins
any_outcome classes NonAtomicMode s h = refl
any_outcome classes AtomicMode s h = refl
any_outcome classes CompoundAtomicMode s h = refl
any_outcome classes Between s h = absurd h

nothing_left : (r : Text) (t : State) → Failure ≡ (if starts_in (λ c. true) r then Success t None' else Failure) → r ≡ []
nothing_left [] t h = refl
nothing_left (c ∷ r) t h = cc

text_at_end : (alike : ℕ → ℕ → Bool) (c : ℕ) (t : Text) (s : State) → s.rest ≡ [] → text_outcome alike (c ∷ t) s ≡ Failure
text_at_end alike c t s e = rw e refl

character_at_end : (set : ℕ → Bool) (s : State) → s.rest ≡ [] → character_outcome set s ≡ Failure
character_at_end set s e = rw e refl

not_ahead_fails : (s t : State) (us : Trees) (o : Outcome) → Success t us ≡ not_ahead s o → o ≡ Failure
not_ahead_fails s t us Failure h = refl
not_ahead_fails s t us (Success u vs) h = cc

ahead_fails : (s : State) (o : Outcome) → Failure ≡ ahead s o → o ≡ Failure
ahead_fails s Failure h = refl
ahead_fails s (Success u vs) h = cc

module _ (g : Grammar) (classes : Classes) (m : Mode) where
  -- what a predicate's outcome is made of
  neg_of : (e : Expression) (s : State) (p : Outcome) → Matches g classes (bare.NegPred e) m s p → (o : Outcome) × Matches g classes e m s o × (p ≡ not_ahead s o)
  neg_of e s _ (neg_pred {o = o} d) = (o, d, refl)

  pos_of : (e : Expression) (s : State) (p : Outcome) → Matches g classes (bare.PosPred e) m s p → (o : Outcome) × Matches g classes e m s o × (p ≡ ahead s o)
  pos_of e s _ (pos_pred {o = o} d) = (o, d, refl)

  no_option_fails : (e : Expression) (s : State) → Matches g classes (bare.Opt e) m s Failure → ⊥
  no_option_fails e s d = elim d [ ]

  no_repetition_fails : (e : Expression) (s : State) → Matches g classes (bare.Rep e) m s Failure → ⊥
  no_repetition_fails e s d = elim d [ ]

  empty_fails_not : (s : State) → Matches g classes (Str []) m s Failure → ⊥
  empty_fails_not s d = let z = same g classes d str in cc

  no_options_fail : (e : Expression) (n : ℕ) (s : State) → Matches g classes (in_sequence (replicate n (bare.Opt e))) m s Failure → ⊥
  no_options_fail e zero s d = empty_fails_not s d
  no_options_fail e (suc zero) s d = no_option_fails e s d
  no_options_fail e (suc (suc n)) s (seq_first a) = no_option_fails e s a
  no_options_fail e (suc (suc n)) s (seq_second a k b) = no_options_fail e (suc n) _ b

  pub no_optional_fails : (x : Spanned) → is_optional x ≡ true → (s : State) → Matches g classes (without_spans x) m s Failure → ⊥
  no_optional_fails (One p spanned.Opt x) h s d = no_option_fails (without_spans x) s d
  no_optional_fails (One p spanned.Rep x) h s d = no_repetition_fails (without_spans x) s d
  no_optional_fails (One p (spanned.RepMax n) x) h s (rep_max d) = no_options_fail (without_spans x) n s d
  no_optional_fails _ h s d = cc

  pub no_test_fails : (x : Spanned) → is_optional x ≡ true → (s : State) → Matches g classes (bare.PosPred (without_spans x)) m s Failure → ⊥
  no_test_fails x h s d =
      let i = pos_of (without_spans x) s Failure d in
      no_optional_fails x h s (subst (λ o. Matches g classes (without_spans x) m s o) (ahead_fails s i.0 i.2) i.1)

  pub no_refusal_succeeds : (x : Spanned) → is_optional x ≡ true → (s t : State) (us : Trees) → Matches g classes (bare.NegPred (without_spans x)) m s (Success t us) → ⊥
  no_refusal_succeeds x h s t us d =
      let i = neg_of (without_spans x) s (Success t us) d in
      no_optional_fails x h s (subst (λ o. Matches g classes (without_spans x) m s o) (not_ahead_fails s t us i.0 i.2) i.1)

  option_forth : (x : Spanned) → is_optional x ≡ true → (s : State) (o : Outcome) → Matches g classes (bare.Opt (without_spans x)) m s o → Matches g classes (without_spans x) m s o
  option_forth x h s _ (opt a) = a
  option_forth x h s _ (opt_none a) = absurd (no_optional_fails x h s a)

  option_back : (x : Spanned) → is_optional x ≡ true → (s : State) (o : Outcome) → Matches g classes (without_spans x) m s o → Matches g classes (bare.Opt (without_spans x)) m s o
  option_back x h s (Success t us) a = opt a
  option_back x h s Failure a = absurd (no_optional_fails x h s a)

  pub same_option : (x : Spanned) → is_optional x ≡ true → (s : State) (o : Outcome) → Matches g classes (bare.Opt (without_spans x)) m s o ↔ Matches g classes (without_spans x) m s o
  same_option x h s o = (option_forth x h s o, option_back x h s o)

  count_forth : (e : Expression) (i n : ℕ) → n < i → (s : State) (o : Outcome) → Matches g classes (bare.RepMinMax e i n) m s o → Matches g classes (bare.RepExact e n) m s o
  count_forth e i n h s o (rep_min_max d) = rep_exact (subst (λ f. Matches g classes f m s o) (reversed_exact e i n h) d)

  count_back : (e : Expression) (i n : ℕ) → n < i → (s : State) (o : Outcome) → Matches g classes (bare.RepExact e n) m s o → Matches g classes (bare.RepMinMax e i n) m s o
  count_back e i n h s o (rep_exact d) = rep_min_max (subst (λ f. Matches g classes f m s o) (sym (reversed_exact e i n h)) d)

  pub same_count : (e : Expression) (i n : ℕ) → n < i → (s : State) (o : Outcome) → Matches g classes (bare.RepMinMax e i n) m s o ↔ Matches g classes (bare.RepExact e n) m s o
  same_count e i n h s o = (count_forth e i n h s o, count_back e i n h s o)

  module _ (of_rule : IsRuleMode m) (no_any : rule_of g (codes "ANY") ≡ None) (text : Text) where
    any_does : (s : State) → Matches g classes any m s (character_outcome (λ c. true) s)
    any_does s = other no_any (any_outcome classes m s of_rule)

    any_failed : (s : State) → Matches g classes any m s Failure → s.rest ≡ []
    any_failed s d = nothing_left s.rest (moved 1 s) (same g classes d (any_does s))

    -- after the turns of `ANY*`, and what is skipped then, nothing is left
    turns_end : {s t u : State} {us vs : Trees} → Does g classes (Turns m any) s (Success t us) → Does g classes (Skipping m) t (Success u vs) → u.rest ≡ []
    turns_end (turn k a b) sk = turns_end b sk
    turns_end (turn_none k a) sk =
        let e = same g classes sk k in
        let z = any_failed _ a in
        cc

    any_rest : {s t u : State} {us vs : Trees} → Matches g classes (bare.Rep any) m s (Success t us) → IsStateIn text s → Does g classes (Skipping m) t (Success u vs) → u.rest ≡ []
    any_rest (rep a b) st sk = turns_end b sk
    any_rest {s} {t} {u} (rep_none a) st sk = still_empty text _ _ _ st (fits text sk st) (any_failed _ a)

    any_once_rest : {s t u : State} {us vs : Trees} → Matches g classes (bare.RepOnce any) m s (Success t us) → IsStateIn text s → Does g classes (Skipping m) t (Success u vs) → u.rest ≡ []
    any_once_rest (rep_once (seq a k b)) st sk = any_rest b (fits text k (fits text a st).0).0 sk

    rep_taken : (x : Spanned) → is_any x ≡ true → (s t u : State) (us vs : Trees) → Matches g classes (bare.Rep (without_spans x)) m s (Success t us) → IsStateIn text s → Does g classes (Skipping m) t (Success u vs) → u.rest ≡ []
    rep_taken x h s t u us vs d st sk = any_rest {us = us} (subst (λ e. Matches g classes (bare.Rep e) m s (Success t us)) (to_any x h) d) st sk

    once_taken : (x : Spanned) → is_any x ≡ true → (s t u : State) (us vs : Trees) → Matches g classes (bare.RepOnce (without_spans x)) m s (Success t us) → IsStateIn text s → Does g classes (Skipping m) t (Success u vs) → u.rest ≡ []
    once_taken x h s t u us vs d st sk = any_once_rest {us = us} (subst (λ e. Matches g classes (bare.RepOnce e) m s (Success t us)) (to_any x h) d) st sk

    rest_taken : (x : Spanned) → takes_rest x ≡ true → {s t u : State} {us vs : Trees} → Matches g classes (without_spans x) m s (Success t us) → IsStateIn text s → Does g classes (Skipping m) t (Success u vs) → u.rest ≡ []
    rest_taken (Two p spanned.Seq x y) h (seq a k b) st sk = rest_taken y h b (fits text k (fits text a st).0).0 sk
    rest_taken (One p spanned.Rep x) h d st sk = rep_taken x h _ _ _ _ _ d st sk
    rest_taken (One p spanned.RepOnce x) h d st sk = once_taken x h _ _ _ _ _ d st sk
    rest_taken _ h d st sk = cc

    -- what takes a character fails where none is left
    leaf_fails : (e : Expression) → is_character_leaf e ≡ true → (s : State) → s.rest ≡ [] → Matches g classes e m s Failure
    leaf_fails (Str []) h s e = cc
    leaf_fails (Str (c ∷ t)) h s e = subst (λ o. Matches g classes (Str (c ∷ t)) m s o) (text_at_end nat_eq c t s e) str
    leaf_fails (Insens []) h s e = cc
    leaf_fails (Insens (c ∷ t)) h s e = subst (λ o. Matches g classes (Insens (c ∷ t)) m s o) (text_at_end eq_ignore_ascii_case c t s e) insens
    leaf_fails (Range a b) h s e = subst (λ o. Matches g classes (Range a b) m s o) (character_at_end (range_set a b) s e) range
    leaf_fails (Ident n) h s e =
        let d = subst (λ o. Matches g classes any m s o) (character_at_end (λ c. true) s e) (any_does s) in
        subst (λ f. Matches g classes f m s Failure) (sym (to_any_name (Ident n) h)) d
    leaf_fails _ h s e = cc

    fails_at_end : (x : Spanned) → takes_character x ≡ true → (s : State) → s.rest ≡ [] → Matches g classes (without_spans x) m s Failure
    fails_at_end (Two p spanned.Seq x y) h s e = seq_first (fails_at_end x h s e)
    fails_at_end (Leaf p f) h s e = leaf_fails f h s e
    fails_at_end _ h s e = cc

    pub no_unmatchable_succeeds : (x : Spanned) → is_unmatchable x ≡ true → (s t : State) (us : Trees) → IsStateIn text s → Matches g classes (without_spans x) m s (Success t us) → ⊥
    no_unmatchable_succeeds (One p spanned.NegPred x) h s t us st d = no_refusal_succeeds x h s t us d
    no_unmatchable_succeeds (Two p spanned.Seq x y) h s t us st (seq a k b) =
        let parts = and_parts (takes_rest x) (takes_character y) h in
        let z = same g classes b (fails_at_end y parts.1 _ (rest_taken x parts.0 a st k)) in
        cc
    no_unmatchable_succeeds _ h s t us st d = cc

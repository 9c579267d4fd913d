-- What fails where literals and alternatives before it fail.
use Rattle.std.proofs.Common.{◌≡◌, ℕ, List, [], ◌∷◌, ◌++◌, Bool, true, false, inl, inr, Option, Some, None, option_to_list, if◌then◌else◌, refl, sym, ◌∙◌, bytes_eq, subst, map, nat_eq, eq-eqb, eqb-true, leb-true, ltb-true, ◌<◌, ◌≤◌, arith}
use Rattle.std.specs.Prelude.{◌↔◌, nat_lt, nat_le}
use Rattle.base_language.specs.Language.Builtins.{is_between, is_one_of}
use Rattle.std.specs.List.{AllByRecursion}
use Rattle.std.proofs.lemmas.Bool.{and_parts, false_from_ne_true, or_cases}
use Rattle.std.proofs.lemmas.Slice.Eq.{bytes_eq-Decides}
use Rattle.lint_warnings.proofs.Called.{is_one_of-append}
use Rattle.base_language.specs.Language.Text.{Text}
use Rattle.base_language.specs.Language.Expression.{Expression, Str, Range, Ident, Grammar}
use Rattle.base_language.specs.Language.Expression as bare
use Rattle.base_language.specs.Language.Matching.{any_begins, begins, text_outcome, character_outcome, range_set, starts_in}
use Rattle.base_language.specs.Language.Meaning.{Does, Run, Matches, str, range, seq_first, left, right}
use Rattle.base_language.specs.Language.State.{Classes, Mode, State, None', Outcome, Success, Failure}
use Rattle.base_language.proofs.OneOutcome.{same}
use Rattle.front_spanned.specs.Erasure.{without_spans}
use Rattle.front_spanned.specs.Spanned.{Spanned, Span, Leaf, One, Two, Seq, Choice}
use Rattle.lint_warnings.specs.Choices.{alternatives, begins_so, beginning_of, call_of, calls, first_call_of, is_begun, is_call_of, literal_of, literals, own_literal}
use Rattle.lint_warnings.specs.Laws.{FailsAlone}
use Rattle.lint_warnings.specs.Ranges.{is_above, is_reversed, is_reversed_range}

pub all_append : {X : Type 0} (P : X → Type 0) (xs ys : List X) → AllByRecursion P xs → AllByRecursion P ys → AllByRecursion P (xs ++ ys)
all_append P [] ys h k = k
all_append P (x ∷ xs) ys h k = (h.0, all_append P xs ys h.1 k)

-- what begins a beginning begins the text
begins-trans : (u t r : Text) → begins nat_eq u t ≡ true → begins nat_eq t r ≡ true → begins nat_eq u r ≡ true
begins-trans [] t r h k = refl
begins-trans (c ∷ u) [] r h k = cc
begins-trans (c ∷ u) (d ∷ t) [] h k = cc
begins-trans (c ∷ u) (d ∷ t) (e ∷ r) h k =
    let a = and_parts (nat_eq c d) (begins nat_eq u t) h in
    let b = and_parts (nat_eq d e) (begins nat_eq t r) k in
    let same_first : c ≡ e = (let x = eqb-true c d a.0 in let y = eqb-true d e b.0 in cc) in
    rw (eq-eqb c e same_first, begins-trans u t r a.1 b.1) refl

-- a text that is not there begins no other that is
refuted : (ts : List Text) (t r : Text) → any_begins ts t ≡ true → AllByRecursion (λ u. begins nat_eq u r ≡ false) ts → begins nat_eq t r ≡ false
refuted [] t r h k = cc
refuted (u ∷ ts) t r h k = elim (or_cases (begins nat_eq u t) (any_begins ts t) h) [
  | inl a ↦ false_from_ne_true (begins nat_eq t r) (λ b. let x = begins-trans u t r a b in let y = k.0 in cc)
  | inr a ↦ refuted ts t r a k.1
]

begun : (ts : List Text) (o : Option Text) → begins_so ts o ≡ true → (t : Text) × (o ≡ Some t) × (any_begins ts t ≡ true)
begun ts None h = cc
begun ts (Some t) h = (t, refl, h)

called_first : (ns : List Text) (o : Option Text) → is_call_of ns o ≡ true → (n : Text) × (o ≡ Some n) × (is_one_of ns n ≡ true)
called_first ns None h = cc
called_first ns (Some n) h = (n, refl, h)

-- a text failed, so it was not there
text_missing : (b : Bool) (s : State) → Failure ≡ (if b then Success s None' else Failure) → b ≡ false
text_missing true s h = cc
text_missing false s h = refl

module _ (g : Grammar) (classes : Classes) (m : Mode) where
  pub fails_alone : (e : Expression) (s : State) → Matches g classes e m s Failure → FailsAlone g classes e m s
  fails_alone e s d = (d, λ o h. same g classes h d)

  str_fails : (t : Text) (s : State) → begins nat_eq t s.rest ≡ false → Matches g classes (Str t) m s Failure
  str_fails t s h =
      let e : text_outcome nat_eq t s ≡ Failure = rw h refl in
      subst (λ o. Does g classes (Run m (Str t)) s o) e str

  str_failed : (t : Text) (s : State) → Matches g classes (Str t) m s Failure → begins nat_eq t s.rest ≡ false
  str_failed t s d = text_missing (begins nat_eq t s.rest) _ (same g classes d str)

  -- where its beginning is not there, an expression fails
  beginning_fails : (e : Expression) (t : Text) (s : State) → beginning_of e ≡ Some t → begins nat_eq t s.rest ≡ false → Matches g classes e m s Failure
  beginning_fails (Str u) t s h k =
      let e : u ≡ t = cc in
      str_fails u s (rw e k)
  beginning_fails (bare.Seq a b) t s h k = seq_first (beginning_fails a t s h k)
  beginning_fails _ t s h k = cc

  -- the literal that a failed expression is
  own_fails : (e : Expression) (s : State) → Matches g classes e m s Failure → AllByRecursion (λ u. begins nat_eq u s.rest ≡ false) (option_to_list (literal_of e))
  own_fails (Str t) s d = (str_failed t s d, tt)
  own_fails _ s d = tt

  literals_fail : (xs : List Spanned) (s : State) → AllByRecursion (λ x. Matches g classes x m s Failure) (map without_spans xs) → AllByRecursion (λ u. begins nat_eq u s.rest ≡ false) (literals xs)
  literals_fail [] s h = tt
  literals_fail (x ∷ xs) s h = all_append (λ u. begins nat_eq u s.rest ≡ false) (own_literal x) (literals xs) (own_fails (without_spans x) s h.0) (literals_fail xs s h.1)

  -- where the name that it calls first fails, an expression fails
  first_call_fails : (e : Expression) (n : Text) (s : State) → first_call_of e ≡ Some n → Matches g classes (Ident n) m s Failure → Matches g classes e m s Failure
  first_call_fails (Ident k) n s h d =
      let e : n ≡ k = cc in
      subst (λ t. Matches g classes (Ident t) m s Failure) e d
  first_call_fails (bare.Seq a b) n s h d = seq_first (first_call_fails a n s h d)
  first_call_fails _ n s h d = cc

  -- a name among those that failed expressions call
  own_call_failed : (e : Expression) (n : Text) (s : State) → is_one_of (option_to_list (call_of e)) n ≡ true → Matches g classes e m s Failure → Matches g classes (Ident n) m s Failure
  own_call_failed (Ident k) n s h d = elim (or_cases (bytes_eq k n) false h) [
    | inl a ↦ subst (λ t. Matches g classes (Ident t) m s Failure) ((bytes_eq-Decides k n).0 a) d
    | inr a ↦ cc
  ]
  own_call_failed _ n s h d = cc

  call_failed : (xs : List Spanned) (n : Text) (s : State) → is_one_of (calls xs) n ≡ true → AllByRecursion (λ x. Matches g classes x m s Failure) (map without_spans xs) → Matches g classes (Ident n) m s Failure
  call_failed [] n s h k = cc
  call_failed (x ∷ xs) n s h k = elim (or_cases (is_one_of (option_to_list (call_of (without_spans x))) n) (is_one_of (calls xs) n) (sym (is_one_of-append (option_to_list (call_of (without_spans x))) (calls xs) n) ∙ h)) [
    | inl a ↦ own_call_failed (without_spans x) n s a k.0
    | inr a ↦ call_failed xs n s a k.1
  ]

  literal_begins : (earlier : List Spanned) (x : Spanned) (s : State) → begins_so (literals earlier) (beginning_of (without_spans x)) ≡ true
      → AllByRecursion (λ y. Matches g classes y m s Failure) (map without_spans earlier) → Matches g classes (without_spans x) m s Failure
  literal_begins earlier x s h k =
      let b = begun (literals earlier) (beginning_of (without_spans x)) h in
      beginning_fails (without_spans x) b.0 s b.1 (refuted (literals earlier) b.0 s.rest b.2 (literals_fail earlier s k))

  call_begins : (earlier : List Spanned) (x : Spanned) (s : State) → is_call_of (calls earlier) (first_call_of (without_spans x)) ≡ true
      → AllByRecursion (λ y. Matches g classes y m s Failure) (map without_spans earlier) → Matches g classes (without_spans x) m s Failure
  call_begins earlier x s h k =
      let b = called_first (calls earlier) (first_call_of (without_spans x)) h in
      first_call_fails (without_spans x) b.0 s b.1 (call_failed earlier b.0 s b.2 k)

  pub never_taken : (earlier : List Spanned) (x : Spanned) (s : State) → is_begun (literals earlier) (calls earlier) x ≡ true
      → AllByRecursion (λ y. Matches g classes y m s Failure) (map without_spans earlier) → Matches g classes (without_spans x) m s Failure
  never_taken earlier x s h k = elim (or_cases (begins_so (literals earlier) (beginning_of (without_spans x))) (is_call_of (calls earlier) (first_call_of (without_spans x))) h) [
    | inl a ↦ literal_begins earlier x s a k
    | inr a ↦ call_begins earlier x s a k
  ]

  -- where a choice fails, its alternatives do
  map_without_append : (P : Expression → Type 0) (xs ys : List Spanned) → AllByRecursion P (map without_spans xs) → AllByRecursion P (map without_spans ys) → AllByRecursion P (map without_spans (xs ++ ys))
  map_without_append P [] ys h k = k
  map_without_append P (x ∷ xs) ys h k = (h.0, map_without_append P xs ys h.1 k)

  both_fail : (a b : Expression) (s : State) → Matches g classes (bare.Choice a b) m s Failure → Matches g classes a m s Failure × Matches g classes b m s Failure
  both_fail a b s (right c d) = (c, d)

  pub alternatives_fail : (x : Spanned) (s : State) → Matches g classes (without_spans x) m s Failure → AllByRecursion (λ y. Matches g classes y m s Failure) (map without_spans (alternatives x))
  alternatives_fail (Two p Choice x y) s d =
      let b = both_fail (without_spans x) (without_spans y) s d in
      map_without_append (λ e. Matches g classes e m s Failure) (alternatives x) (alternatives y) (alternatives_fail x s b.0) (alternatives_fail y s b.1)
  alternatives_fail (Two p Seq x y) s d = (d, tt)
  alternatives_fail (One p f x) s d = (d, tt)
  alternatives_fail (Leaf p e) s d = (d, tt)

  -- an alternative that fails where the others fail changes nothing
  drop_forth : (a b : Expression) (s : State) (o : Outcome) → (Matches g classes a m s Failure → Matches g classes b m s Failure) → Matches g classes (bare.Choice a b) m s o → Matches g classes a m s o
  drop_forth a b s _ f (left c) = c
  drop_forth a b s o f (right c d) = subst (λ p. Matches g classes a m s p) (same g classes (f c) d) c

  drop_back : (a b : Expression) (s : State) (o : Outcome) → (Matches g classes a m s Failure → Matches g classes b m s Failure) → Matches g classes a m s o → Matches g classes (bare.Choice a b) m s o
  drop_back a b s (Success t us) f c = left c
  drop_back a b s Failure f c = right c (f c)

  pub changes_nothing : (p : Span) (x y : Spanned) (s : State) (o : Outcome) → is_begun (literals (alternatives x)) (calls (alternatives x)) y ≡ true
      → Matches g classes (without_spans (Two p Choice x y)) m s o ↔ Matches g classes (without_spans x) m s o
  changes_nothing p x y s o h =
      let f : Matches g classes (without_spans x) m s Failure → Matches g classes (without_spans y) m s Failure = λ d. never_taken (alternatives x) y s h (alternatives_fail x s d) in
      (drop_forth (without_spans x) (without_spans y) s o f, drop_back (without_spans x) (without_spans y) s o f)

-- no character is between bounds that are reversed
above_none : (a b c : ℕ) → nat_lt b a ≡ true → is_between a b c ≡ false
above_none a b c h = false_from_ne_true (is_between a b c) (λ k.
    let p = and_parts (nat_le a c) (nat_le c b) k in
    let x : a ≤ c = leb-true a c p.0 in
    let y : c ≤ b = leb-true c b p.1 in
    let z : b < a = ltb-true b a h in
    absurd (omega arith))

reversed_out : (a b : Text) (rest : Text) → is_above a b ≡ true → starts_in (range_set a b) rest ≡ false
reversed_out [] b rest h = cc
reversed_out (c ∷ a) [] rest h = cc
reversed_out (c ∷ a) (d ∷ b) [] h = refl
reversed_out (c ∷ a) (d ∷ b) (e ∷ rest) h = above_none c d e h

module _ (g : Grammar) (classes : Classes) (m : Mode) (s : State) where
  range_fails : (e : Expression) → is_reversed_range e ≡ true → Matches g classes e m s Failure
  range_fails (Range a b) h =
      let e : character_outcome (range_set a b) s ≡ Failure = rw (reversed_out a b s.rest h) refl in
      subst (λ o. Does g classes (Run m (Range a b)) s o) e range
  range_fails _ h = cc

  pub reversed_fails : (x : Spanned) → is_reversed x ≡ true → Matches g classes (without_spans x) m s Failure
  reversed_fails (Leaf p e) h = range_fails e h
  reversed_fails (One p f x) h = cc
  reversed_fails (Two p f x y) h = cc

-- The characters with which expressions begin.
use Rattle.std.proofs.Common.{◌≡◌, refl, sym, ◌∙◌, ap, ap₂, subst, ℕ, zero, suc, ◌<◌, List, [], ◌∷◌, ◌++◌, Bool, true, false, ◌||◌, ◌&&◌, inl, inr, None, Some, ◌+◌, ◌≤◌, arith, eqb-true, get_or, length, nat_eq, if◌then◌else◌}
use Rattle.std.specs.Char.{eq_ignore_ascii_case, to_ascii_lowercase, to_ascii_uppercase}
use Rattle.std.proofs.lemmas.Str.Ascii.{lowercase_is, uppercase_is}
use Rattle.std.specs.Prelude.{◌⊎◌, Err, IfOk, IfSome, Ok, Option, Result, max}
use Rattle.std.proofs.Math.ListN.{set}
use Rattle.std.proofs.lemmas.Bool.{cases_lt}
use Rattle.std.proofs.lemmas.List.{get_or-set_other, get_or-set_same}
use Rattle.base_ast.specs.Ast.{rule_type_of}
use Rattle.base_language.specs.Language.Builtins.{is_between}
use Rattle.base_language.specs.Language.Expression.{Choice, Expression, Grammar, Ident, Insens, NegPred, NodeTag, Opt, Rep, RepOnce, RestoreOnErr, Rule, Seq, Str, rule_of}
use Rattle.base_language.specs.Language.FurthestFailure.{furthest, place_of}
use Rattle.base_language.specs.Language.Matching.{begins, starts_in}
use Rattle.base_language.specs.Language.Meaning as by
use Rattle.base_language.specs.Language.Meaning.{Does, Run, Skipping, body_mode, gives_token, mode_in, seen_from}
use Rattle.base_language.specs.Language.State.{Classes, Failure, Mode, NonAtomicMode, None', State, Success, moved}
use Rattle.base_language.specs.Language.Text.{Text}
use Rattle.matcher_code.specs.Failures.{no_failure}
use Rattle.matcher_code.specs.Lists.{is_covered}
use Rattle.matcher_code.proofs.Attempting.{called}
use Rattle.matcher_code.specs.Laid.{FailsOutside, IsTight, Misses, IsSilentUnless, TakesNone}
use Rattle.matcher_program.specs.declared.form.Form.{Form}
use Rattle.matcher_program.specs.declared.form.Program.{Program}
use Rattle.matcher_program.specs.declared.form.ProgramRule.{ProgramRule}
use Rattle.matcher_program.specs.Programs.{Fits}
use Rattle.matcher_sets.specs.declared.first_sets.FirstSet.{FirstSet}
use Rattle.matcher_sets.specs.declared.modes.Atomicity.{Atomicity}
use Rattle.matcher_sets.specs.Differences.{AddsFirsts}
use Rattle.matcher_sets.specs.Forms.{IsSoundProgram, grammar_in, said}
use Rattle.matcher_sets.specs.FirstSets.{AreFirstSetsIn, HasFront, HasFirstSet, IsCall, IsTriviaFirstSet, IsJoin, TakesNothing}
use Rattle.matcher_sets.specs.Modes.{mode_of}
use Rattle.matcher_sets.specs.Ranges.{Adds}
use Rattle.matcher_sets.proofs.Ranging.{between_same, covered-append, or_none}
use Rattle.matcher_sets.proofs.Recording.{negated_silent, neither, silent_place, silent_unless, three_unless, two_unless}
use Rattle.matcher_sets.proofs.Rules.{in_mode, made}
use Rattle.matcher_sets.proofs.Starting.{same_self}

pub misses_parts : (xs ys : List (ℕ × ℕ)) (cs : Text) → Misses (xs ++ ys) cs → Misses xs cs × Misses ys cs
misses_parts xs ys [] h = (tt, tt)
misses_parts xs ys (c ∷ cs) h =
    let k = neither (is_covered xs c) (is_covered ys c) (sym (covered-append xs ys c) ∙ h.1) in ((h.0, k.0), (h.0, k.1))

misses_starts : (ranges : List (ℕ × ℕ)) (set : ℕ → Bool) → Adds [] ranges set → (cs : Text) → Misses ranges cs → starts_in set cs ≡ false
misses_starts ranges set adds [] h = refl
misses_starts ranges set adds (c ∷ cs) h = sym (adds c h.0) ∙ h.1

pub greater_place : (a b : Bool) (i : ℕ) → max (if a then i else 0) (if b then i else 0) ≡ (if (a || b) then i else 0)
greater_place true true i = omega arith
greater_place true false i = omega arith
greater_place false true i = omega arith
greater_place false false i = refl

first_parts : (a k b : ℕ) → max a (max k b) ≡ max (max a k) b
first_parts a k b = omega arith

beside_none : (a k b : ℕ) → a ≡ b → k ≡ 0 → max a k ≡ b
beside_none a k b e h = omega (arith, e, h)

-- an expression takes nothing, and neither does the skipping behind it
abbrev pub HaveTaken : Grammar → Classes → Mode → Expression → State → Bool → Type 0
HaveTaken g classes m a s n = (d : Does g classes (Run m a) s (Success s None'))
    × ((k : Does g classes (Skipping m) s (Success s None')) × (max (furthest d) (furthest k) ≡ place_of n s Failure) × IsSilentUnless n d × IsSilentUnless n k)

module _ (g : Grammar) (classes : Classes) (m : Mode) where
  module _ (a b : Expression) where
    pub left_takes : (xs : List (ℕ × ℕ)) (n : Bool) → TakesNothing g classes (Run m a) xs true n → TakesNothing g classes (Run m (Choice a b)) xs true n
    left_takes xs n x s h = let u = x s h in (by.left u.0, u.1, u.2)

    pub either_takes : (xs ys : List (ℕ × ℕ)) (n e k : Bool) → TakesNothing g classes (Run m a) xs false n → TakesNothing g classes (Run m b) ys e k
        → TakesNothing g classes (Run m (Choice a b)) (xs ++ ys) e (n || k)
    either_takes xs ys n e k x y s h =
        let i = misses_parts xs ys s.rest h in
        let u = x s i.0 in
        let v = y s i.1 in
        (by.right u.0 v.0, ap₂ (λ p q. max p q) u.1 v.1 ∙ greater_place n k s.position, two_unless n k u.2 v.2)

    pub first_fails : (xs : List (ℕ × ℕ)) (n : Bool) → TakesNothing g classes (Run m a) xs false n → TakesNothing g classes (Run m (Seq a b)) xs false n
    first_fails xs n x s h = let u = x s h in (by.seq_first u.0, u.1, u.2)

    pub tight_takes : (xs : List (ℕ × ℕ)) (n : Bool) → IsTight g classes m → TakesNothing g classes (Run m a) xs true n
        → (s : State) → Misses xs s.rest → HaveTaken g classes m a s n
    tight_takes xs n tight x s h =
        let u = x s h in
        let t = tight s in
        (u.0, (t.0, beside_none (furthest u.0) (furthest t.0) (place_of n s Failure) u.1 (silent_place t.0 t.1), u.2, silent_unless t.0 t.1 n))

    pub skipping_takes : (xs ys : List (ℕ × ℕ)) (n k : Bool) → TakesNothing g classes (Run m a) xs true n → TakesNothing g classes (Skipping m) ys true k
        → (s : State) → Misses (xs ++ ys) s.rest → HaveTaken g classes m a s (n || k)
    skipping_takes xs ys n k x y s h =
        let i = misses_parts xs ys s.rest h in
        let u = x s i.0 in
        let v = y s i.1 in (
          u.0,
          (
            v.0,
            ap₂ (λ p q. max p q) u.1 v.1 ∙ greater_place n k s.position,
            λ e. u.2 (neither n k e).0,
            λ e. v.2 (neither n k e).1,
          ),
        )

    pub both_take : (xs ys : List (ℕ × ℕ)) (n e k : Bool) → ((s : State) → Misses xs s.rest → HaveTaken g classes m a s n) → TakesNothing g classes (Run m b) ys e k
        → TakesNothing g classes (Run m (Seq a b)) (xs ++ ys) e (n || k)
    both_take xs ys n true k x y s h =
        let i = misses_parts xs ys s.rest h in
        let u = x s i.0 in
        let t = u.1 in
        let v = y s i.1 in (
          by.seq u.0 t.0 v.0,
          first_parts (furthest u.0) (furthest t.0) (furthest v.0) ∙ (ap₂ (λ p q. max p q) t.1 v.1 ∙ greater_place n k s.position),
          three_unless n k t.2 t.3 v.2,
        )
    both_take xs ys n false k x y s h =
        let i = misses_parts xs ys s.rest h in
        let u = x s i.0 in
        let t = u.1 in
        let v = y s i.1 in (
          by.seq_second u.0 t.0 v.0,
          first_parts (furthest u.0) (furthest t.0) (furthest v.0) ∙ (ap₂ (λ p q. max p q) t.1 v.1 ∙ greater_place n k s.position),
          three_unless n k t.2 t.3 v.2,
        )

  pub option_takes : (a : Expression) (xs : List (ℕ × ℕ)) (e n : Bool) → TakesNothing g classes (Run m a) xs e n → TakesNothing g classes (Run m (Opt a)) xs true n
  option_takes a xs true n x s h = let u = x s h in (by.opt u.0, u.1, u.2)
  option_takes a xs false n x s h = let u = x s h in (by.opt_none u.0, u.1, u.2)

  pub repetition_takes : (a : Expression) (xs : List (ℕ × ℕ)) (n : Bool) → TakesNothing g classes (Run m a) xs false n → TakesNothing g classes (Run m (Rep a)) xs true n
  repetition_takes a xs n x s h = let u = x s h in (by.rep_none u.0, u.1, u.2)

  pub negation_takes : (a : Expression) (xs : List (ℕ × ℕ)) (n : Bool) → TakesNothing g classes (Run m a) xs false n → TakesNothing g classes (Run m (NegPred a)) xs true n
  negation_takes a xs n x s h = let u = x s h in (by.neg_pred u.0, u.1, λ e. negated_silent (u.2 e))

  pub tag_takes : (a : Expression) (t : Text) (xs : List (ℕ × ℕ)) (e n : Bool) → TakesNothing g classes (Run m a) xs e n → TakesNothing g classes (Run m (NodeTag a t)) xs e n
  tag_takes a t xs e n x s h = let u = x s h in (by.tag u.0, u.1, u.2)

  pub restore_takes : (a : Expression) (xs : List (ℕ × ℕ)) (e n : Bool) → TakesNothing g classes (Run m a) xs e n → TakesNothing g classes (Run m (RestoreOnErr a)) xs e n
  restore_takes a xs e n x s h = let u = x s h in (by.restore u.0, u.1, u.2)

  pub once_takes : (a : Expression) (xs : List (ℕ × ℕ)) (n : Bool) → TakesNothing g classes (Run m a) xs false n → TakesNothing g classes (Run m (RepOnce a)) xs false n
  once_takes a xs n x s h = let u = x s h in (by.rep_once (by.seq_first u.0), u.1, u.2)

  pub call_takes : (x : Text) (r : Rule) (xs : List (ℕ × ℕ)) (n counts : Bool) → rule_of g x ≡ Some r → counts ≡ (seen_from m && gives_token r.type_of m) → counts ≡ gives_token r.type_of m
      → TakesNothing g classes (Run (body_mode r m) r.body) xs false n → TakesNothing g classes (Run m (Ident x)) xs false (counts || n)
  call_takes x r xs n counts e c v y s h =
      let u = y s h in (
        by.call e u.0,
        ap₂ (λ p q. max p q) (ap (λ b. place_of b s Failure) (sym c)) u.1 ∙ greater_place counts n s.position,
        λ z place.
            let q = neither counts n z in
            ap₂ (λ b i. called b (gives_token r.type_of m) x place s Failure i) (sym c ∙ q.0) (u.2 q.1 place) ∙ ap (λ b. called false b x place s Failure no_failure) (sym v ∙ q.0),
      )

  -- a literal, by its first character
  begins_not : (t : Text) (c : ℕ) (cs : Text) → ((d : ℕ) → starts_in (λ e. nat_eq e d) t ≡ nat_eq c d) → Misses ((c, c) ∷ []) cs → begins nat_eq t cs ≡ false
  begins_not [] c cs first h = let z : false ≡ true = first c ∙ same_self c in cc
  begins_not (x ∷ t) c [] first h = refl
  begins_not (x ∷ t) c (d ∷ cs) first h =
      ap (λ b. b && begins nat_eq t cs) (first d ∙ (sym (between_same c d) ∙ (sym (or_none (is_between c c d)) ∙ h.1)))

  pub literal_takes : (t : Text) (c : ℕ) → ((d : ℕ) → starts_in (λ e. nat_eq e d) t ≡ nat_eq c d)
      → (xs : List (ℕ × ℕ)) → Adds [] xs (is_between c c) → TakesNothing g classes (Run m (Str t)) xs false false
  literal_takes t c first xs adds s h =
      let k : begins nat_eq t s.rest ≡ false = begins_not t c s.rest first (one s.rest h) in
      let P : Bool → Type 0 = λ b. (d : Does g classes (Run m (Str t)) s (if b then Success (moved (length t) s) None' else Failure)) × (furthest d ≡ 0) × IsSilentUnless false d in
      subst P k (by.str, refl, λ e place. refl)
    where
      one : (cs : Text) → Misses xs cs → Misses ((c, c) ∷ []) cs
      one [] h = tt
      one (d ∷ cs) h = (h.0, or_none (is_between c c d) ∙ (sym (adds d h.0) ∙ h.1))

-- a literal in any case, by the cases of its first character
other_case : (c d : ℕ) → eq_ignore_ascii_case c d ≡ true → (d ≡ to_ascii_lowercase c) ⊎ (d ≡ to_ascii_uppercase c)
other_case c d e = elim (cases_lt d 65) [
  | inl k ↦ inl (sym (h ∙ (lowercase_is d).1 k))
  | inr k ↦ elim (cases_lt 90 d) [ inl l ↦ inl (sym (h ∙ (lowercase_is d).2 l)) | inr l ↦ inr (capital k l) ]
]
  where
    h : to_ascii_lowercase c ≡ to_ascii_lowercase d
    h = eqb-true (to_ascii_lowercase c) (to_ascii_lowercase d) e

    capital : 65 ≤ d → d ≤ 90 → d ≡ to_ascii_uppercase c
    capital k l =
        let x : to_ascii_lowercase c ≡ d + 32 = h ∙ (lowercase_is d).0 (k, l) in
        elim (cases_lt c 65) [
          | inl i ↦ absurd (omega (arith, i, k, x, (lowercase_is c).1 i))
          | inr i ↦ elim (cases_lt 90 c) [
            | inl j ↦
                let y : c ≡ d + 32 = sym ((lowercase_is c).2 j) ∙ x in
                let z = (uppercase_is c).0 (omega (arith, y, k), omega (arith, y, l)) in
                omega (arith, y, z)
            | inr j ↦
                let y = (lowercase_is c).0 (i, j) in
                let z = (uppercase_is c).1 (omega (arith, j)) in
                omega (arith, x, y, z)
          ]
        ]

pub any_case_takes : (g : Grammar) (classes : Classes) (m : Mode) (t : Text) (c : ℕ) → ((d : ℕ) → starts_in (λ e. nat_eq e d) t ≡ nat_eq c d)
    → (xs ys : List (ℕ × ℕ)) → Adds [] xs (is_between (to_ascii_lowercase c) (to_ascii_lowercase c)) → Adds xs ys (is_between (to_ascii_uppercase c) (to_ascii_uppercase c))
    → TakesNothing g classes (Run m (Insens t)) ys false false
any_case_takes g classes m t c first xs ys low high s miss =
    let P : Bool → Type 0 = λ b. (d : Does g classes (Run m (Insens t)) s (if b then Success (moved (length t) s) None' else Failure)) × (furthest d ≡ 0) × IsSilentUnless false d in
    subst P (begins_none t s.rest first miss) (by.insens, refl, λ e place. refl)
  where
    outside : (d : ℕ) → d < 1114112 → is_covered ys d ≡ false → eq_ignore_ascii_case c d ≡ false
    outside d l free = go (eq_ignore_ascii_case c d) refl
      where
        one : (a : ℕ) → d ≡ a → is_between a a d ≡ true
        one a e = between_same a d ∙ (ap (λ x. nat_eq a x) e ∙ same_self a)

        covered : (is_between (to_ascii_lowercase c) (to_ascii_lowercase c) d ≡ false) × (is_between (to_ascii_uppercase c) (to_ascii_uppercase c) d ≡ false)
        covered =
            let x = neither (is_covered xs d) (is_between (to_ascii_uppercase c) (to_ascii_uppercase c) d) (sym (high d l) ∙ free) in
            (sym (low d l) ∙ x.0, x.1)

        go : (b : Bool) → eq_ignore_ascii_case c d ≡ b → eq_ignore_ascii_case c d ≡ false
        go false e = e
        go true e = elim (other_case c d e) [
          | inl q ↦ let z : true ≡ false = sym (one (to_ascii_lowercase c) q) ∙ covered.0 in cc
          | inr q ↦ let z : true ≡ false = sym (one (to_ascii_uppercase c) q) ∙ covered.1 in cc
        ]

    begins_none : (u cs : Text) → ((d : ℕ) → starts_in (λ e. nat_eq e d) u ≡ nat_eq c d) → Misses ys cs → begins eq_ignore_ascii_case u cs ≡ false
    begins_none [] cs f k = let z : false ≡ true = f c ∙ same_self c in cc
    begins_none (x ∷ u) [] f k = refl
    begins_none (x ∷ u) (d ∷ cs) f k =
        let e : x ≡ c = eqb-true x c (f c ∙ same_self c) in
        ap (λ b. b && begins eq_ignore_ascii_case u cs) (ap (λ y. eq_ignore_ascii_case y d) e ∙ outside d k.0 k.1)

-- a form that begins with one of some characters
pub firsts_take : (p : Program) (f : Form) (m : Atomicity) (ranges : List (ℕ × ℕ)) → AddsFirsts p f [] ranges → (classes : Classes) → Fits p.properties.items classes
    → TakesNothing (grammar_in p) classes (Run (mode_of m) (said p f)) ranges false false
firsts_take p f m ranges h classes fits s miss =
    let x = h classes fits in
    let y = x.holds m s in
    subst (λ b. (d : Does (grammar_in p) classes (Run (mode_of m) (said p f)) s (if b then Success (moved (suc y.more) s) None' else Failure)) × (furthest d ≡ 0) × IsSilentUnless false d)
    (misses_starts ranges x.characters x.adds s.rest miss) (y.found, silent_place y.found y.quiet, silent_unless y.found y.quiet false)

-- where a form never succeeds without taking something
pub fails_outside : (p : Program) (m : Mode) (e : Expression) (h : FirstSet) → HasFirstSet p m e h → h.empty ≡ false → (classes : Classes) → Fits p.properties.items classes
    → FailsOutside (grammar_in p) classes (Run m e) h.ranges.items h.noted
fails_outside p m e h x q classes fits = subst (λ b. TakesNothing (grammar_in p) classes (Run m e) h.ranges.items b h.noted) q (x.takes classes fits)

-- where a form always succeeds without taking something
pub takes_none : (p : Program) (m : Mode) (e : Expression) (h : FirstSet) → HasFirstSet p m e h → h.empty ≡ true → (classes : Classes) → Fits p.properties.items classes
    → TakesNone (grammar_in p) classes (Run m e) h.ranges.items h.noted
takes_none p m e h x q classes fits = subst (λ b. TakesNothing (grammar_in p) classes (Run m e) h.ranges.items b h.noted) q (x.takes classes fits)

-- FIRST sets by those of the parts
module _ (p : Program) (m : Mode) (a b : Expression) where
  with_empty : (h : FirstSet) {v w : Bool} (e : Expression) (classes : Classes) → v ≡ w
      → TakesNothing (grammar_in p) classes (Run m e) h.ranges.items v h.noted → TakesNothing (grammar_in p) classes (Run m e) h.ranges.items w h.noted
  with_empty h e classes q x = subst (λ v. TakesNothing (grammar_in p) classes (Run m e) h.ranges.items v h.noted) q x

  pub left_first_set : (h : FirstSet) → h.empty ≡ true → HasFirstSet p m a h → HasFirstSet p m (Choice a b) h
  left_first_set h q x = record {
    takes = λ classes fits.
        with_empty h (Choice a b) classes (sym q) (left_takes (grammar_in p) classes m a b h.ranges.items h.noted (with_empty h a classes q (x.takes classes fits)));
  }

  pub first_first_set : (h : FirstSet) → h.empty ≡ false → HasFirstSet p m a h → HasFirstSet p m (Seq a b) h
  first_first_set h q x = record {
    takes = λ classes fits.
        with_empty h (Seq a b) classes (sym q) (first_fails (grammar_in p) classes m a b h.ranges.items h.noted (with_empty h a classes q (x.takes classes fits)));
  }

  joined_as : (e : Expression) (classes : Classes) (h k j : FirstSet) → IsJoin h k j
      → TakesNothing (grammar_in p) classes (Run m e) (h.ranges.items ++ k.ranges.items) k.empty (h.noted || k.noted)
      → TakesNothing (grammar_in p) classes (Run m e) j.ranges.items j.empty j.noted
  joined_as e classes h k j q x =
      subst (λ r. TakesNothing (grammar_in p) classes (Run m e) r j.empty j.noted) (sym q.ranges)
      (subst (λ v. TakesNothing (grammar_in p) classes (Run m e) (h.ranges.items ++ k.ranges.items) v j.noted) (sym q.empty)
      (subst (λ n. TakesNothing (grammar_in p) classes (Run m e) (h.ranges.items ++ k.ranges.items) k.empty n) (sym q.noted) x))

  pub either_first_set : (h k j : FirstSet) → h.empty ≡ false → IsJoin h k j → HasFirstSet p m a h → HasFirstSet p m b k → HasFirstSet p m (Choice a b) j
  either_first_set h k j q joined x y = record {
    takes = λ classes fits.
        joined_as (Choice a b) classes h k j joined (either_takes (grammar_in p) classes m a b h.ranges.items k.ranges.items h.noted k.empty k.noted
        (with_empty h a classes q (x.takes classes fits)) (y.takes classes fits));
  }

  pub tight_front : (h : FirstSet) → h.empty ≡ true → ((classes : Classes) → IsTight (grammar_in p) classes m) → HasFirstSet p m a h → HasFront p m a h
  tight_front h q tight x = record {
    takes = λ classes fits. tight_takes (grammar_in p) classes m a b h.ranges.items h.noted (tight classes) (with_empty h a classes q (x.takes classes fits));
  }

  pub trivia_front : (h k j : FirstSet) → h.empty ≡ true → m ≡ NonAtomicMode → IsJoin h k j → HasFirstSet p m a h → IsTriviaFirstSet p k → HasFront p m a j
  trivia_front h k j q e joined x y = record {
    takes = λ classes fits.
        let z = subst (λ i. TakesNothing (grammar_in p) classes (Skipping i) k.ranges.items true k.noted) (sym e) (y.takes classes fits) in
        let w = skipping_takes (grammar_in p) classes m a b h.ranges.items k.ranges.items h.noted k.noted (with_empty h a classes q (x.takes classes fits)) z in
        subst (λ r. (s : State) → Misses r s.rest → HaveTaken (grammar_in p) classes m a s j.noted) (sym joined.ranges)
        (subst (λ n. (s : State) → Misses (h.ranges.items ++ k.ranges.items) s.rest → HaveTaken (grammar_in p) classes m a s n) (sym joined.noted) w);
  }

  pub both_first_set : (h k j : FirstSet) → IsJoin h k j → HasFront p m a h → HasFirstSet p m b k → HasFirstSet p m (Seq a b) j
  both_first_set h k j joined x y = record {
    takes = λ classes fits.
        joined_as (Seq a b) classes h k j joined (both_take (grammar_in p) classes m a b h.ranges.items k.ranges.items h.noted k.empty k.noted
        (x.takes classes fits) (y.takes classes fits));
  }

  -- another FIRST set with the ranges of the operand's, where nothing is taken
  spared_as : (e : Expression) (h j : FirstSet) → j.ranges.items ≡ h.ranges.items → j.empty ≡ true → j.noted ≡ h.noted
      → ((classes : Classes) → Fits p.properties.items classes → TakesNothing (grammar_in p) classes (Run m e) h.ranges.items true h.noted) → HasFirstSet p m e j
  spared_as e h j r q n x = record {
    takes = λ classes fits.
        with_empty j e classes (sym q) (subst (λ n. TakesNothing (grammar_in p) classes (Run m e) j.ranges.items true n) (sym n)
        (subst (λ r. TakesNothing (grammar_in p) classes (Run m e) r true h.noted) (sym r) (x classes fits)));
  }

  pub repetition_first_set : (h j : FirstSet) → j.ranges.items ≡ h.ranges.items → j.empty ≡ true → j.noted ≡ h.noted → h.empty ≡ false → HasFirstSet p m a h → HasFirstSet p m (Rep a) j
  repetition_first_set h j r q n f x = spared_as (Rep a) h j r q n
      (λ classes fits. repetition_takes (grammar_in p) classes m a h.ranges.items h.noted (with_empty h a classes f (x.takes classes fits)))

  pub negation_first_set : (h j : FirstSet) → j.ranges.items ≡ h.ranges.items → j.empty ≡ true → j.noted ≡ h.noted → h.empty ≡ false → HasFirstSet p m a h → HasFirstSet p m (NegPred a) j
  negation_first_set h j r q n f x = spared_as (NegPred a) h j r q n
      (λ classes fits. negation_takes (grammar_in p) classes m a h.ranges.items h.noted (with_empty h a classes f (x.takes classes fits)))

  pub tag_first_set : (h : FirstSet) (t : Text) → HasFirstSet p m a h → HasFirstSet p m (NodeTag a t) h
  tag_first_set h t x = record { takes = λ classes fits. tag_takes (grammar_in p) classes m a t h.ranges.items h.empty h.noted (x.takes classes fits) }

  pub restore_first_set : (h : FirstSet) → HasFirstSet p m a h → HasFirstSet p m (RestoreOnErr a) h
  restore_first_set h x = record { takes = λ classes fits. restore_takes (grammar_in p) classes m a h.ranges.items h.empty h.noted (x.takes classes fits) }

  pub option_first_set : (h j : FirstSet) → j.ranges.items ≡ h.ranges.items → j.empty ≡ true → j.noted ≡ h.noted → HasFirstSet p m a h → HasFirstSet p m (Opt a) j
  option_first_set h j r q n x = spared_as (Opt a) h j r q n (λ classes fits. option_takes (grammar_in p) classes m a h.ranges.items h.empty h.noted (x.takes classes fits))

  pub once_first_set : (h : FirstSet) → h.empty ≡ false → HasFirstSet p m a h → HasFirstSet p m (RepOnce a) h
  once_first_set h q x = record {
    takes = λ classes fits.
        with_empty h (RepOnce a) classes (sym q) (once_takes (grammar_in p) classes m a h.ranges.items h.noted (with_empty h a classes q (x.takes classes fits)));
  }

pub call_first_set : (p : Program) (m : Mode) (x : Text) (r : Rule) (body first_set : FirstSet) (counts : Bool) → rule_of (grammar_in p) x ≡ Some r
    → counts ≡ (seen_from m && gives_token r.type_of m) → counts ≡ gives_token r.type_of m → HasFirstSet p (body_mode r m) r.body body → IsCall body counts first_set → HasFirstSet p m (Ident x) first_set
call_first_set p m x r body first_set counts e c v has is = record {
  takes = λ classes fits.
      let y = subst (λ v. TakesNothing (grammar_in p) classes (Run (body_mode r m) r.body) body.ranges.items v body.noted) is.takes (has.takes classes fits) in
      let z = call_takes (grammar_in p) classes m x r body.ranges.items body.noted counts e c v y in
      subst (λ n. TakesNothing (grammar_in p) classes (Run m (Ident x)) first_set.ranges.items first_set.empty n) (sym is.noted)
      (subst (λ v. TakesNothing (grammar_in p) classes (Run m (Ident x)) first_set.ranges.items v (counts || body.noted)) (sym is.fails)
      (subst (λ r. TakesNothing (grammar_in p) classes (Run m (Ident x)) r false (counts || body.noted)) (sym is.ranges) z));
}

-- the FIRST set of a body
pub program_rule_has : (p : Program) (rule : ℕ) (program_rule : ProgramRule) (within : rule < length p.rules.items) (is : program_rule ≡ get_or p.rules.items rule program_rule) → IsSoundProgram p
    → (m inner : Mode) → inner ≡ mode_in (rule_type_of program_rule.kind) program_rule.blank m → (first_sets : List (Option FirstSet)) → AreFirstSetsIn p inner first_sets
    → (body : FirstSet) → get_or first_sets rule None ≡ Some body → HasFirstSet p (body_mode (made p rule program_rule within is) m) (made p rule program_rule within is).body body
program_rule_has p rule program_rule within is sound m inner e first_sets are body k =
    let x : HasFirstSet p inner (said p (get_or p.rules.items rule program_rule).body) body =
    subst (λ o. IfSome o (HasFirstSet p inner (said p (get_or p.rules.items rule program_rule).body))) k (are rule program_rule within) in
    let y = subst (λ r. HasFirstSet p inner (said p r.body) body) (sym is) x in
    subst (λ z. HasFirstSet p z (said p program_rule.body) body) (in_mode p rule program_rule within is sound m inner e) y

-- what holds of a value that is made
pub if_made : {A E : Type 0} {P Q : A → Type 0} (r : Result (Option A) E) → ((x : A) → P x → Q x) → IfOk r (λ made. IfSome made P) → IfOk r (λ made. IfSome made Q)
if_made (Ok (Some x)) f h = f x h
if_made (Ok None) f h = tt
if_made (Err e) f h = tt

-- another FIRST set of a body
pub first_sets_put : (p : Program) (m : Mode) (list new : List (Option FirstSet)) (rule : ℕ) (first_set : Option FirstSet) → new ≡ set list rule first_set → rule < length list
    → AreFirstSetsIn p m list → ((d : ProgramRule) → rule < length p.rules.items → IfSome first_set (HasFirstSet p m (said p (get_or p.rules.items rule d).body))) → AreFirstSetsIn p m new
first_sets_put p m list new rule first_set e within are one i d l = elim (cases_lt i rule) [
  | inl a ↦ other (λ q. omega (arith, a, q))
  | inr a ↦ elim (cases_lt rule i) [ inl b ↦ other (λ q. omega (arith, b, q)) | inr b ↦ here (omega (arith, a, b)) ]
]
  where
    other : (i ≡ rule → ⊥) → IfSome (get_or new i None) (HasFirstSet p m (said p (get_or p.rules.items i d).body))
    other apart =
        subst (λ o. IfSome o (HasFirstSet p m (said p (get_or p.rules.items i d).body))) (sym (ap (λ x. get_or x i None) e ∙ get_or-set_other list rule i first_set None apart)) (are i d l)

    here : rule ≡ i → IfSome (get_or new i None) (HasFirstSet p m (said p (get_or p.rules.items i d).body))
    here q =
        subst (λ j. IfSome (get_or new j None) (HasFirstSet p m (said p (get_or p.rules.items j d).body))) q
        (subst (λ o. IfSome o (HasFirstSet p m (said p (get_or p.rules.items rule d).body))) (sym (ap (λ x. get_or x rule None) e ∙ get_or-set_same list rule first_set None within))
        (one d (omega (arith, q, l))))

-- lists without a FIRST set
pub none_more : {A : Type 0} (xs : List (Option A)) (k : ℕ) → ((j : ℕ) → get_or xs j None ≡ None) → get_or (xs ++ None ∷ []) k None ≡ None
none_more [] zero h = refl
none_more [] (suc k) h = refl
none_more (x ∷ xs) zero h = h 0
none_more (x ∷ xs) (suc k) h = none_more xs k (λ j. h (suc j))

pub no_first_sets : (p : Program) (m : Mode) (list : List (Option FirstSet)) → ((k : ℕ) → get_or list k None ≡ None) → AreFirstSetsIn p m list
no_first_sets p m list h i d l = subst (λ o. IfSome o (HasFirstSet p m (said p (get_or p.rules.items i d).body))) (sym (h i)) tt

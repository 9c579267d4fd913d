-- Outcomes of expressions without operands, and the operations that match them.
use Rattle.std.proofs.Common.{◌≡◌, refl, ◌∙◌, ◌<◌, ap, arith, subst, ℕ, List, [], ◌∷◌, Bool, true, false, ◌&&◌, ◌||◌, ◌==◌, Some, None, drop, codes, if◌then◌else◌, ap₂, suc}
use Rattle.std.proofs.Math.Bool.{and-false}
use Rattle.std.proofs.Math.Utf8.{scalar, scalars}
use Rattle.std.proofs.lemmas.Bool.{and_parts}
use Rattle.std.proofs.lemmas.Str.{scalars-chars}
use Rattle.base_language.specs.Language.Builtins.{Builtin, Eoi, One, Soi, builtin_of, is_between}
use Rattle.base_language.specs.Language.Expression.{Grammar, Ident, Rule, rule_of}
use Rattle.base_language.specs.Language.Expected.{told}
use Rattle.base_language.specs.Language.FurthestFailure.{is_eoi, place_of}
use Rattle.base_language.specs.Language.Matching.{builtin_outcome, character_outcome, end_outcome, other_outcome, range_set, starts_in}
use Rattle.base_language.specs.Language.Meaning as by
use Rattle.base_language.specs.Language.Meaning.{Does, Run, body_mode, gives_token, seen_from}
use Rattle.base_language.specs.Language.State.{AtomicMode, Classes, CompoundAtomicMode, Failure, IsRuleMode, Mode, NonAtomicMode, None', Between, Outcome, State, Success, moved}
use Rattle.base_language.specs.Language.Text.{Text}
use Rattle.matcher_code.specs.Attempts.{no_attempt, told_attempts}
use Rattle.matcher_code.specs.Lists.{CodeLists, is_covered}
use Rattle.matcher_code.specs.declared.code.Op.TheVariants as op
use Rattle.matcher_code.specs.Sets.{IsSetOf}
use Rattle.matcher_code.specs.Laid.{HasOutcome, IsSilent, Performs, at_label, skip_set, span_of}
use Rattle.matcher_code.specs.Failures.{Failures, end_failures, in_silence, no_failure}
use Rattle.matcher_code.specs.declared.state.Places.{Places}
use Rattle.matcher_code.specs.Paths.{told_paths}
use Rattle.matcher_code.specs.Reached.{Comes, IsAt}
use Rattle.matcher_code.proofs.CharacterSets.{all_performs, below, one_performs}
use Rattle.matcher_code.proofs.Attempting.{called}
use Rattle.front_grammar.proofs.Lookup.{any_builtin, eoi_builtin, soi_builtin}

-- two sets that have the same characters
abbrev pub Covers : List (ℕ × ℕ) → (ℕ → Bool) → Type 0
Covers ranges set = (c : ℕ) → c < 1114112 → is_covered ranges c ≡ set c

module _ (ranges : List (ℕ × ℕ)) (set : ℕ → Bool) (covers : Covers ranges set) where
  covered_head : (cs : Text) → scalars cs ≡ true → starts_in (is_covered ranges) cs ≡ starts_in set cs
  covered_head [] u = refl
  covered_head (c ∷ cs) u = covers c (below c (and_parts (scalar c) (scalars cs) u).0)

  rest_scalars : {stack : List (List ℕ)} (text : List ℕ) (s : State) (at : ℕ) → IsAt text s at stack → scalars s.rest ≡ true
  rest_scalars text s at h = ap scalars h.rest ∙ scalars-chars (drop at text) h.valid

  -- the operation of the ranges matches a character of the set
  pub one_as : (code : CodeLists) (number : Text → ℕ) → at_label code 0 ≡ op.Fail → (i : ℕ) → IsSetOf code i ranges
      → (l n w : ℕ) → at_label code l ≡ op.One i n w → Performs code number l n w (character_outcome set) in_silence
  one_as code number fail i is l n w h text s c at safe =
      subst (λ o. Comes code text number l n w o no_failure 1 8 c)
      (ap (λ b. if b then Success (moved 1 s) None' else Failure) (covered_head s.rest (rest_scalars text s c.at at)))
      (one_performs code i ranges is number fail l n w h text s c at safe)

  covered_span : (cs : Text) → scalars cs ≡ true → span_of (is_covered ranges) cs ≡ span_of set cs
  covered_span [] u = refl
  covered_span (c ∷ cs) u =
      let k = and_parts (scalar c) (scalars cs) u in
      ap₂ (λ b n. if b then suc n else 0) (covers c (below c k.0)) (covered_span cs k.1)

  -- the operation that takes all of the ranges takes all that follow of the set
  pub all_as : (code : CodeLists) (number : Text → ℕ) → at_label code 0 ≡ op.Fail → (i : ℕ) → IsSetOf code i ranges
      → (l n w : ℕ) → at_label code l ≡ op.All i n → Performs code number l n w (skip_set set) in_silence
  all_as code number fail i is l n w h text s c at safe =
      subst (λ o. Comes code text number l n w o no_failure 1 8 c)
      (ap (λ k. Success (moved k s) None') (covered_span s.rest (rest_scalars text s c.at at)))
      (all_performs code i ranges is number fail l n w h text s c at safe)

or_none : (b : Bool) → (b || false) ≡ b
or_none true = refl
or_none false = refl

-- one range
pub covers_range : (a b : ℕ) → Covers ((a, b) ∷ []) (range_set (a ∷ []) (b ∷ []))
covers_range a b c h = or_none (is_between a b c)

-- all characters
pub covers_all : Covers ((0, 1114111) ∷ []) (λ c. true)
covers_all c h = or_none (is_between 0 1114111 c) ∙ within c h
  where
    within : (c : ℕ) → c < 1114112 → is_between 0 1114111 c ≡ true
    within c h = grind arith

by_builtin : (classes : Classes) (m : Mode) (n : Text) (b : Builtin) (s : State) → IsRuleMode m → builtin_of n ≡ Some b
    → other_outcome classes m n s ≡ builtin_outcome classes m b s
by_builtin classes NonAtomicMode n b s i h = rw h refl
by_builtin classes AtomicMode n b s i h = rw h refl
by_builtin classes CompoundAtomicMode n b s i h = rw h refl
by_builtin classes Between n b s i h = absurd i

-- the failures of a name that is no rule's, which counts or not
abbrev other_failures : Bool → Text → Places → State → Outcome → Failures
other_failures b n place s o = record {
  furthest = place_of b s o;
  names = told b n place.names s o [];
  paths = told_paths b n place.names s o [];
  attempts = told_attempts b false n place.attempts s o no_attempt;
  negated = told_attempts b true n place.attempts s o no_attempt;
}

unseen : (b : Bool) (n : Text) (place : Places) (s : State) (o : Outcome) → b ≡ false → other_failures b n place s o ≡ no_failure
unseen b n place s (Success t us) e = ap (λ x. other_failures x n place s (Success t us)) e
unseen b n place s Failure e = ap (λ x. other_failures x n place s Failure) e

module _ (g : Grammar) (classes : Classes) (m : Mode) (i : IsRuleMode m) where
  builtin_outcome_of : (n : Text) (b : Builtin) (f : State → Outcome) → rule_of g n ≡ None → builtin_of n ≡ Some b
      → ((s : State) → builtin_outcome classes m b s ≡ Some (f s))
      → HasOutcome g classes (Run m (Ident n)) f (λ place s. other_failures (seen_from m && is_eoi n) n place s (f s))
  builtin_outcome_of n b f u h e s = (by.other u (by_builtin classes m n b s i h ∙ e s), λ place. refl)

  -- an outcome without a failure that is recorded
  quiet : (n : Text) (f : State → Outcome) → is_eoi n ≡ false
      → HasOutcome g classes (Run m (Ident n)) f (λ place s. other_failures (seen_from m && is_eoi n) n place s (f s))
      → HasOutcome g classes (Run m (Ident n)) f in_silence
  quiet n f e h s =
      let x = h s in
      let z : (seen_from m && is_eoi n) ≡ false = ap (λ b. seen_from m && b) e ∙ and-false (seen_from m) in
      (x.0, λ place. x.1 place ∙ unseen (seen_from m && is_eoi n) n place s (f s) z)

  pub any_outcome : rule_of g (codes "ANY") ≡ None → HasOutcome g classes (Run m (Ident (codes "ANY"))) (character_outcome (λ c. true)) in_silence
  any_outcome u =
      quiet (codes "ANY") (character_outcome (λ c. true)) refl
      (builtin_outcome_of (codes "ANY") (One (λ c. true)) (character_outcome (λ c. true)) u any_builtin (λ s. refl))

  pub start_outcome : rule_of g (codes "SOI") ≡ None → HasOutcome g classes (Run m (Ident (codes "SOI"))) (λ s. if s.position == 0 then Success s None' else Failure) in_silence
  start_outcome u =
      quiet (codes "SOI") (λ s. if s.position == 0 then Success s None' else Failure) refl
      (builtin_outcome_of (codes "SOI") Soi (λ s. if s.position == 0 then Success s None' else Failure) u soi_builtin (λ s. refl))

  pub end_outcome_of : rule_of g (codes "EOI") ≡ None → seen_from m ≡ true
      → HasOutcome g classes (Run m (Ident (codes "EOI"))) (λ s. end_outcome m s.rest s) (λ place s. end_failures place s (end_outcome m s.rest s))
  end_outcome_of u e s =
      let x = builtin_outcome_of (codes "EOI") Eoi (λ s. end_outcome m s.rest s) u eoi_builtin (λ s. refl) s in
      let z : (seen_from m && is_eoi (codes "EOI")) ≡ true = ap (λ b. b && true) e in
      (x.0, λ place. x.1 place ∙ ap (λ b. other_failures b (codes "EOI") place s (end_outcome m s.rest s)) z)

-- a call without a token of a rule whose body fails in silence
pub silent_failure : (g : Grammar) (classes : Classes) (m : Mode) (x : Text) (s : State) (r : Rule) → rule_of g x ≡ Some r → gives_token r.type_of m ≡ false
    → (d : Does g classes (Run (body_mode r m) r.body) s Failure) × IsSilent d → (d : Does g classes (Run m (Ident x)) s Failure) × IsSilent d
silent_failure g classes m x s r h e d =
    let z : (seen_from m && gives_token r.type_of m) ≡ false = ap (λ b. seen_from m && b) e ∙ and-false (seen_from m) in
    (by.call {m = m} h d.0, λ place. ap₂ (λ b i. called b (gives_token r.type_of m) x place s Failure i) z (d.1 place) ∙ ap (λ v. called false v x place s Failure no_failure) e)

-- Leaf expressions, and the operations that match them.
use Rattle.std.proofs.Common.{◌≡◌, refl, ◌∙◌, ap, ap₂, subst, ℕ, suc, List, [], ◌∷◌, Bool, true, false, ◌&&◌, ◌==◌, Some, None, length, drop, codes, nat_eq, arith, if◌then◌else◌, eqb-true}
use Rattle.std.proofs.Math.Bool.{and-false, and-true}
use Rattle.std.proofs.Math.Utf8.{scalar, scalars}
use Rattle.std.proofs.lemmas.Bool.{and_parts}
use Rattle.std.proofs.lemmas.Str.{scalars-chars}
use Rattle.base_ast.specs.Ast.{text_of}
use Rattle.base_language.specs.Language.Builtins.{Builtin, Eoi, Newline, One, Soi, builtin_of, builtins}
use Rattle.base_language.specs.Language.Expression.{Grammar, Ident, rule_of}
use Rattle.base_language.specs.Language.Expected.{told}
use Rattle.base_language.specs.Language.FurthestFailure.{is_eoi, place_of}
use Rattle.base_language.specs.Language.Matching.{begins, builtin_outcome, character_outcome, end_outcome, newline_outcome, other_outcome, starts_in, text_outcome}
use Rattle.base_language.specs.Language.Meaning as by
use Rattle.base_language.specs.Language.Meaning.{Does, Run, seen_from}
use Rattle.base_language.specs.Language.State.{AtomicMode, Classes, Failure, None', Outcome, State, Success, moved}
use Rattle.base_language.specs.Language.Text.{Text}
use Rattle.matcher_code.specs.Attempts.{no_attempt, told_attempts}
use Rattle.matcher_code.specs.Lists.{CodeLists, is_covered}
use Rattle.matcher_code.specs.declared.code.Op.TheVariants as op
use Rattle.matcher_code.specs.Sets.{IsSetOf}
use Rattle.matcher_code.specs.Laid.{HasOutcome, IsSilent, Performs, at_label, skip_set, span_of}
use Rattle.matcher_code.specs.Failures.{Failures, end_failures, in_silence, no_failure}
use Rattle.matcher_code.specs.declared.state.Places.{Places}
use Rattle.matcher_code.specs.Paths.{told_paths}
use Rattle.matcher_code.specs.Reached.{Comes, IsAt}
use Rattle.matcher_code.proofs.Characters.{choice_of_sets}
use Rattle.matcher_code.proofs.CharacterSets.{all_performs, below, one_performs}
use Rattle.matcher_program.specs.declared.form.Class.{Class}
use Rattle.matcher_program.specs.declared.form.Class.TheVariants as class
use Rattle.matcher_program.specs.declared.form.Form.{Form}
use Rattle.matcher_program.specs.declared.form.Form.TheVariants as form
use Rattle.matcher_program.specs.declared.form.Program.{Program}
use Rattle.matcher_program.specs.Programs.{characters_of, class_name, is_one, is_set, set_of}
use Rattle.matcher_sets.specs.declared.modes.Atomicity.{Atomicity}
use Rattle.matcher_sets.specs.declared.modes.Atomicity.TheVariants as mode
use Rattle.matcher_sets.specs.Modes.{mode_of}
use Rattle.matcher_sets.specs.Ranges.{Covers}
use Rattle.matcher_sets.specs.Forms.{IsBoundIn, grammar_in, said}

-- characters that ranges cover, of a text
module _ (ranges : List (ℕ × ℕ)) (set : ℕ → Bool) (covers : Covers ranges set) where
  covered_first_set : (cs : Text) → scalars cs ≡ true → starts_in (is_covered ranges) cs ≡ starts_in set cs
  covered_first_set [] u = refl
  covered_first_set (c ∷ cs) u = covers c (below c (and_parts (scalar c) (scalars cs) u).0)

  covered_span : (cs : Text) → scalars cs ≡ true → span_of (is_covered ranges) cs ≡ span_of set cs
  covered_span [] u = refl
  covered_span (c ∷ cs) u =
      let k = and_parts (scalar c) (scalars cs) u in
      ap₂ (λ b n. if b then suc n else 0) (covers c (below c k.0)) (covered_span cs k.1)

  pub rest_scalars : {stack : List (List ℕ)} (text : List ℕ) (s : State) (at : ℕ) → IsAt text s at stack → scalars s.rest ≡ true
  rest_scalars text s at h = ap scalars h.rest ∙ scalars-chars (drop at text) h.valid

  module _ (code : CodeLists) (number : Text → ℕ) (fail : at_label code 0 ≡ op.Fail) (i : ℕ) (is : IsSetOf code i ranges) where
    pub one_as : (l n w : ℕ) → at_label code l ≡ op.One i n w → Performs code number l n w (character_outcome set) in_silence
    one_as l n w h text s c at safe =
        subst (λ o. Comes code text number l n w o no_failure 1 8 c)
        (ap (λ b. if b then Success (moved 1 s) None' else Failure) (covered_first_set s.rest (rest_scalars text s c.at at)))
        (one_performs code i ranges is number fail l n w h text s c at safe)

    pub all_as : (l n w : ℕ) → at_label code l ≡ op.All i n → Performs code number l n w (skip_set set) in_silence
    all_as l n w h text s c at safe =
        subst (λ o. Comes code text number l n w o no_failure 1 8 c)
        (ap (λ k. Success (moved k s) None') (covered_span s.rest (rest_scalars text s c.at at)))
        (all_performs code i ranges is number fail l n w h text s c at safe)

-- builtins
pub by_builtin : (classes : Classes) (m : Atomicity) (n : Text) (b : Builtin) (s : State) → builtin_of n ≡ Some b
    → other_outcome classes (mode_of m) n s ≡ builtin_outcome classes (mode_of m) b s
by_builtin classes mode.NonAtomic n b s h = rw h refl
by_builtin classes mode.Atomic n b s h = rw h refl
by_builtin classes mode.CompoundAtomic n b s h = rw h refl

class_builtin : (k : Class) → builtin_of (class_name k) ≡ Some (One (set_of k))
unfolding builtins
class_builtin class.Any = refl
class_builtin class.Digit = refl
class_builtin class.NonzeroDigit = refl
class_builtin class.BinDigit = refl
class_builtin class.OctDigit = refl
class_builtin class.HexDigit = refl
class_builtin class.AlphaLower = refl
class_builtin class.AlphaUpper = refl
class_builtin class.Alpha = refl
class_builtin class.Alphanumeric = refl
class_builtin class.Ascii = refl

class_is_no_end : (k : Class) → is_eoi (class_name k) ≡ false
class_is_no_end class.Any = refl
class_is_no_end class.Digit = refl
class_is_no_end class.NonzeroDigit = refl
class_is_no_end class.BinDigit = refl
class_is_no_end class.OctDigit = refl
class_is_no_end class.HexDigit = refl
class_is_no_end class.AlphaLower = refl
class_is_no_end class.AlphaUpper = refl
class_is_no_end class.Alpha = refl
class_is_no_end class.Alphanumeric = refl
class_is_no_end class.Ascii = refl

soi_builtin : builtin_of (codes "SOI") ≡ Some Soi
unfolding builtins
soi_builtin = refl

newline_builtin : builtin_of (codes "NEWLINE") ≡ Some Newline
unfolding builtins
newline_builtin = refl

pub eoi_builtin : builtin_of (codes "EOI") ≡ Some Eoi
unfolding builtins
eoi_builtin = refl

-- the failures of a name that is no rule's, which counts or not
abbrev pub other_failures : Bool → Text → Places → State → Outcome → Failures
other_failures b n place s o = record {
  furthest = place_of b s o;
  names = told b n place.names s o [];
  paths = told_paths b n place.names s o [];
  attempts = told_attempts b false n place.attempts s o no_attempt;
  negated = told_attempts b true n place.attempts s o no_attempt;
}

pub unseen : (b : Bool) (n : Text) (place : Places) (s : State) (o : Outcome) → b ≡ false → other_failures b n place s o ≡ no_failure
unseen b n place s (Success t us) e = ap (λ x. other_failures x n place s (Success t us)) e
unseen b n place s Failure e = ap (λ x. other_failures x n place s Failure) e

one_is_set : (f : Form) → is_one f ≡ true → is_set f ≡ true
one_is_set (form.Choice' p a q b) h = cc
one_is_set f h = h

of_one_character : (t : Text) (s : State) → (length t == 1) ≡ true → text_outcome nat_eq t s ≡ character_outcome (λ c. starts_in (λ d. nat_eq d c) t) s
of_one_character [] s h = cc
of_one_character (x ∷ y ∷ t) s h = let z = eqb-true (length (x ∷ y ∷ t)) 1 h in absurd (omega (arith, z))
of_one_character (x ∷ []) s h = ap (λ b. if b then Success (moved 1 s) None' else Failure) (go s.rest)
  where
    go : (rest : Text) → begins nat_eq (x ∷ []) rest ≡ starts_in (λ c. nat_eq x c) rest
    go [] = refl
    go (d ∷ u) = and-true (nat_eq x d)

module _ (p : Program) (classes : Classes) where
  abbrev g : Grammar
  g = grammar_in p

  pub builtin_outcome_of : (m : Atomicity) (n : Text) (b : Builtin) (f : State → Outcome) → rule_of g n ≡ None → builtin_of n ≡ Some b
      → ((s : State) → builtin_outcome classes (mode_of m) b s ≡ Some (f s))
      → HasOutcome g classes (Run (mode_of m) (Ident n)) f (λ place s. other_failures (seen_from (mode_of m) && is_eoi n) n place s (f s))
  builtin_outcome_of m n b f u h e s = (by.other u (by_builtin classes m n b s h ∙ e s), λ place. refl)

  -- an outcome without a failure that is recorded
  pub quiet : (m : Atomicity) (n : Text) (f : State → Outcome) → is_eoi n ≡ false
      → HasOutcome g classes (Run (mode_of m) (Ident n)) f (λ place s. other_failures (seen_from (mode_of m) && is_eoi n) n place s (f s))
      → HasOutcome g classes (Run (mode_of m) (Ident n)) f in_silence
  quiet m n f e h s =
      let x = h s in
      let z : (seen_from (mode_of m) && is_eoi n) ≡ false = ap (λ b. seen_from (mode_of m) && b) e ∙ and-false (seen_from (mode_of m)) in
      (x.0, λ place. x.1 place ∙ unseen (seen_from (mode_of m) && is_eoi n) n place s (f s) z)

  -- the form of a set matches one character of it
  pub set_outcome : (m : Atomicity) (f : Form) → is_set f ≡ true → IsBoundIn p f
      → HasOutcome g classes (Run (mode_of m) (said p f)) (character_outcome (characters_of f)) in_silence
  set_outcome m (form.Str t) h b = λ s.
      subst (λ o. (d : Does g classes (Run (mode_of m) (said p (form.Str t))) s o) × IsSilent d) (of_one_character (text_of t) s h) (by.str, λ place. refl)
  set_outcome m (form.Range a c) h b = λ s. (by.range, λ place. refl)
  set_outcome m (form.One k) h b =
      quiet m (class_name k) (character_outcome (set_of k)) (class_is_no_end k)
      (builtin_outcome_of m (class_name k) (One (set_of k)) (character_outcome (set_of k)) b (class_builtin k) (λ s. refl))
  set_outcome m (form.Choice' q a r c) h b =
      let k = and_parts (is_one a) (is_set c) h in
      choice_of_sets g classes (mode_of m) (said p a) (said p c) (characters_of a) (characters_of c)
      (set_outcome m a (one_is_set a k.0) b.0) (set_outcome m c k.1 b.1)
  set_outcome m (form.Insens t) h b = cc
  set_outcome m (form.Set' q a) h b = cc
  set_outcome m form.Start h b = cc
  set_outcome m form.End h b = cc
  set_outcome m form.Newline h b = cc
  set_outcome m (form.Call i) h b = cc
  set_outcome m (form.Property n i) h b = cc
  set_outcome m (form.PosPred' q a) h b = cc
  set_outcome m (form.NegPred' q a) h b = cc
  set_outcome m (form.Seq' q a r c) h b = cc
  set_outcome m (form.Opt' q a) h b = cc
  set_outcome m (form.Rep' q a) h b = cc
  set_outcome m (form.RepOnce' q a) h b = cc
  set_outcome m (form.Skip ss) h b = cc
  set_outcome m (form.Push' q a) h b = cc
  set_outcome m (form.PushLiteral t) h b = cc
  set_outcome m (form.Tag' q a t) h b = cc
  set_outcome m (form.Restore' q a) h b = cc
  set_outcome m form.Peek h b = cc
  set_outcome m form.Pop h b = cc
  set_outcome m form.Discard h b = cc
  set_outcome m form.PeekAll h b = cc
  set_outcome m form.PopAll h b = cc
  set_outcome m (form.PeekSlice i j) h b = cc

  pub start_outcome : (m : Atomicity) → rule_of g (codes "SOI") ≡ None
      → HasOutcome g classes (Run (mode_of m) (Ident (codes "SOI"))) (λ s. if s.position == 0 then Success s None' else Failure) in_silence
  start_outcome m u =
      quiet m (codes "SOI") (λ s. if s.position == 0 then Success s None' else Failure) refl
      (builtin_outcome_of m (codes "SOI") Soi (λ s. if s.position == 0 then Success s None' else Failure) u soi_builtin (λ s. refl))

  pub newline_outcome_of : (m : Atomicity) → rule_of g (codes "NEWLINE") ≡ None
      → HasOutcome g classes (Run (mode_of m) (Ident (codes "NEWLINE"))) newline_outcome in_silence
  newline_outcome_of m u =
      quiet m (codes "NEWLINE") newline_outcome refl (builtin_outcome_of m (codes "NEWLINE") Newline newline_outcome u newline_builtin (λ s. refl))

  any_end : (m : Atomicity) → rule_of g (codes "EOI") ≡ None
      → HasOutcome g classes (Run (mode_of m) (Ident (codes "EOI"))) (λ s. end_outcome (mode_of m) s.rest s)
      (λ place s. other_failures (seen_from (mode_of m) && is_eoi (codes "EOI")) (codes "EOI") place s (end_outcome (mode_of m) s.rest s))
  any_end m u = builtin_outcome_of m (codes "EOI") Eoi (λ s. end_outcome (mode_of m) s.rest s) u eoi_builtin (λ s. refl)

  pub bare_end_outcome : (m : Atomicity) → rule_of g (codes "EOI") ≡ None → mode_of m ≡ AtomicMode
      → HasOutcome g classes (Run (mode_of m) (Ident (codes "EOI"))) (λ s. end_outcome AtomicMode s.rest s) in_silence
  bare_end_outcome m u e s =
      let x = any_end m u s in
      let z : (seen_from (mode_of m) && is_eoi (codes "EOI")) ≡ false = ap (λ k. seen_from k && true) e in
      subst (λ k. (d : Does g classes (Run (mode_of m) (Ident (codes "EOI"))) s (end_outcome k s.rest s)) × IsSilent d) e
      (x.0, λ place. x.1 place ∙ unseen (seen_from (mode_of m) && is_eoi (codes "EOI")) (codes "EOI") place s (end_outcome (mode_of m) s.rest s) z)

  pub end_outcome_of : (m : Atomicity) → rule_of g (codes "EOI") ≡ None → seen_from (mode_of m) ≡ true
      → HasOutcome g classes (Run (mode_of m) (Ident (codes "EOI"))) (λ s. end_outcome (mode_of m) s.rest s)
      (λ place s. end_failures place s (end_outcome (mode_of m) s.rest s))
  end_outcome_of m u e s =
      let x = any_end m u s in
      let z : (seen_from (mode_of m) && is_eoi (codes "EOI")) ≡ true = ap (λ b. b && true) e in
      (x.0, λ place. x.1 place ∙ ap (λ b. other_failures b (codes "EOI") place s (end_outcome (mode_of m) s.rest s)) z)

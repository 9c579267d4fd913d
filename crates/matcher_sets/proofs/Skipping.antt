-- Calls of the rules of the implicit skipping.
use Rattle.std.proofs.Common.{◌≡◌, refl, sym, ◌∙◌, ap, ap₂, subst, ℕ, zero, suc, ◌<◌, ◌||◌, ◌&&◌, List, [], ◌∷◌, Bool, true, false, None, Some, bytes_eq, get_or, length, map, arith, if◌then◌else◌}
use Rattle.std.specs.Prelude.{max}
use Rattle.std.proofs.lemmas.List.{length-map}
use Rattle.base_ast.specs.Ast.{text_of}
use Rattle.base_language.specs.Language.Expression.{Atomic, CompoundAtomic, Grammar, Ident, NonAtomic, Normal, Rule, RuleType, Silent, comment, rule_of, whitespace}
use Rattle.base_language.specs.Language.FurthestFailure.{furthest, is_eoi, place_of}
use Rattle.base_language.specs.Language.Meaning as by
use Rattle.base_language.specs.Language.Meaning.{Does, Run, Skipping, body_mode, gives_token, mode_in, seen_from, with_token}
use Rattle.base_language.specs.Language.State.{Between, Classes, Failure, Mode, NonAtomicMode, None', Outcome, State, Success, Tree}
use Rattle.base_language.specs.Language.Text.{Text}
use Rattle.base_language.proofs.Basics.{same_some}
use Rattle.matcher_code.specs.Failures.{Failures, failures_at}
use Rattle.matcher_code.specs.declared.state.Places.{Places}
use Rattle.matcher_code.proofs.Attempting.{called}
use Rattle.matcher_code.specs.Laid.{FailsOutside, Misses}
use Rattle.matcher_code.specs.Steps.{one_place}
use Rattle.matcher_program.specs.declared.form.Program.{Program}
use Rattle.matcher_program.specs.declared.form.ProgramRule.{ProgramRule}
use Rattle.matcher_program.specs.Programs.{Fits, IsRuleOf, name_at, names_of, grammar_rule}
use Rattle.matcher_sets.specs.declared.first_sets.FirstSet.{FirstSet}
use Rattle.matcher_sets.specs.Forms.{grammar_in, no_rule}
use Rattle.matcher_sets.specs.FirstSets.{HasFirstSet, IsTriviaFirstSet, IsJoin, IsSkipFirstSet, TakesNothing}
use Rattle.matcher_sets.proofs.Heading.{fails_outside, greater_place, misses_parts}
use Rattle.matcher_sets.proofs.Leaves.{other_failures}
use Rattle.matcher_sets.proofs.Recording.{three_unless}

pub white_is_no_end : is_eoi whitespace ≡ false
unfolding whitespace
white_is_no_end = refl

pub comment_is_no_end : is_eoi comment ≡ false
unfolding comment
comment_is_no_end = refl

-- a name of the implicit skipping
abbrev pub IsSkipName : Text → Type 0
IsSkipName x = (bytes_eq x whitespace || bytes_eq x comment) ≡ true

pub comment_is_skipped : IsSkipName comment
unfolding whitespace comment
comment_is_skipped = refl

pub white_is_skipped : IsSkipName whitespace
unfolding whitespace comment
white_is_skipped = refl

-- the name of a program rule, and that of its rule
program_rule_name : (names : List Text) (program_rules : List ProgramRule) (i : ℕ) (d : Rule) → i < length program_rules
    → get_or (map (λ r. text_of r.name) program_rules) i [] ≡ (get_or (map (grammar_rule names) program_rules) i d).name
program_rule_name names [] i d l = absurd (omega (arith, l))
program_rule_name names (r ∷ program_rules) zero d l = refl
program_rule_name names (r ∷ program_rules) (suc i) d l = program_rule_name names program_rules i d (omega (arith, l))

-- a call of `COMMENT` in the implicit skipping is as one in NonAtomic
same_body : (t : RuleType) (b : Bool) → b ≡ true → mode_in t b NonAtomicMode ≡ mode_in t b Between
same_body Normal true e = refl
same_body Silent true e = refl
same_body Atomic true e = refl
same_body CompoundAtomic true e = refl
same_body NonAtomic true e = refl
same_body t false e = cc

pub same_tokens : (t : RuleType) → gives_token t NonAtomicMode ≡ gives_token t Between
same_tokens Normal = refl
same_tokens Silent = refl
same_tokens Atomic = refl
same_tokens CompoundAtomic = refl
same_tokens NonAtomic = refl

abbrev token_if : Bool → Rule → State → Outcome → Outcome
token_if b r s Failure = Failure
token_if b r s (Success t us) = Success t (if b then Tree r.name s.position t.position us None' else us)

module _ (g : Grammar) (classes : Classes) (x : Text) (r : Rule) (h : rule_of g x ≡ Some r) (b : (bytes_eq r.name whitespace || bytes_eq r.name comment) ≡ true) where
  pub same_mode : body_mode r NonAtomicMode ≡ body_mode r Between
  same_mode = same_body r.type_of (bytes_eq r.name whitespace || bytes_eq r.name comment) b

  -- an outcome with its failures, and those of a call
  abbrev At : Mode → State → Outcome → (Places → Failures) → Type 0
  At m s o f = (d : Does g classes (Run m (Ident x)) s o) × ((place : Places) → failures_at place d ≡ f place)

  abbrev called_at : (counts gives : Bool) → State → Outcome → (Places → Failures) → Places → Failures
  called_at counts gives s o f place = called counts gives x place s o (f place)

  call_between : (q : Rule) → q ≡ r → rule_of g x ≡ Some q → (s : State) (o : Outcome) (d : Does g classes (Run (body_mode q NonAtomicMode) q.body) s o)
      → At Between s (with_token q NonAtomicMode s o) (called_at (seen_from NonAtomicMode && gives_token q.type_of NonAtomicMode) (gives_token q.type_of NonAtomicMode) s o (λ place. failures_at place d))
  call_between q e k s o d =
      let m : body_mode q NonAtomicMode ≡ body_mode q Between = subst (λ y. body_mode y NonAtomicMode ≡ body_mode y Between) (sym e) same_mode in
      let y = subst (λ i. (d' : Does g classes (Run i q.body) s o) × ((place : Places) → failures_at place d' ≡ failures_at place d)) m (d, λ place. refl) in
      let z : At Between s (with_token q Between s o) (called_at (seen_from Between && gives_token q.type_of Between) (gives_token q.type_of Between) s o (λ place. failures_at place d)) =
      (by.call {m = Between} k y.0, λ place. ap (λ f. called_at (seen_from Between && gives_token q.type_of Between) (gives_token q.type_of Between) s o (λ i. f) place) (y.1 place)) in
      with_tokens (gives_token q.type_of NonAtomicMode) (gives_token q.type_of Between) (same_tokens q.type_of) z
    where
      with_tokens : (u v : Bool) → u ≡ v
          → At Between s (token_if v q s o) (called_at (true && v) v s o (λ place. failures_at place d))
          → At Between s (token_if u q s o) (called_at (true && u) u s o (λ place. failures_at place d))
      with_tokens u v e y = subst (λ w. At Between s (token_if w q s o) (called_at (true && w) w s o (λ place. failures_at place d))) (sym e) y

  pub does_between : (s : State) (o : Outcome) (d : Does g classes (Run NonAtomicMode (Ident x)) s o) → At Between s o (λ place. failures_at place d)
  does_between s o (by.call {o = i} {r = q} k d) = call_between q (same_some (sym k ∙ h)) k s i d
  does_between s o (by.other k e) = absurd (no_rule_is (sym k ∙ h))
    where
      no_rule_is : None ≡ Some r → ⊥
      no_rule_is e = cc

-- a rule that is called in the implicit skipping
module _ (p : Program) (x : Text) (i : ℕ) (meant : IsRuleOf (grammar_in p) x i) where
  skipped_within : i < length p.rules.items
  skipped_within =
      let l = meant.within in
      omega (arith, l, length-map p.rules.items (grammar_rule (names_of p.rules.items)))

  pub skipped_named : name_at (names_of p.rules.items) i ≡ x
  skipped_named = program_rule_name (names_of p.rules.items) p.rules.items i no_rule skipped_within ∙ meant.named no_rule

  pub skipped_is_rule : IsRuleOf (grammar_in p) (name_at (names_of p.rules.items) i) i
  skipped_is_rule = subst (λ n. IsRuleOf (grammar_in p) n i) (sym skipped_named) meant

  pub rule_is_skipped : IsSkipName x → IsSkipName (get_or (grammar_in p) i no_rule).name
  rule_is_skipped blank = subst IsSkipName (sym (meant.named no_rule)) blank

  -- where no character of its FIRST set is next, the call fails
  pub skipped_fails : IsSkipName x → (h : FirstSet) → HasFirstSet p NonAtomicMode (Ident (name_at (names_of p.rules.items) i)) h → h.empty ≡ false
      → IsSkipFirstSet p x h
  skipped_fails blank h has q = record { fails = fails }
    where
      fails : (classes : Classes) → Fits p.properties.items classes → FailsOutside (grammar_in p) classes (Run Between (Ident x)) h.ranges.items h.noted
      fails classes fits s miss =
          let f : FailsOutside (grammar_in p) classes (Run NonAtomicMode (Ident x)) h.ranges.items h.noted =
          subst (λ y. FailsOutside (grammar_in p) classes (Run NonAtomicMode (Ident y)) h.ranges.items h.noted) skipped_named (fails_outside p NonAtomicMode (Ident (name_at (names_of p.rules.items) i)) h has q classes fits) in
          let z = f s miss in
          let y = does_between (grammar_in p) classes x (get_or (grammar_in p) i no_rule) (meant.meant no_rule) (rule_is_skipped blank) s Failure z.0 in
          (y.0, ap (λ f. f.furthest) (y.1 (one_place 0)) ∙ z.1, λ e place. y.1 place ∙ z.2 e place)

-- without a rule of that name no call succeeds
module _ (p : Program) (ranges : List (ℕ × ℕ)) (classes : Classes) where
  pub no_blank : rule_of (grammar_in p) whitespace ≡ None → FailsOutside (grammar_in p) classes (Run Between (Ident whitespace)) ranges false
  no_blank w s miss = (by.other w refl, ap (λ a. if a then s.position else 0) white_is_no_end, λ e place. ap (λ a. other_failures a whitespace place s Failure) white_is_no_end)

  pub no_comment : rule_of (grammar_in p) comment ≡ None → FailsOutside (grammar_in p) classes (Run Between (Ident comment)) ranges false
  no_comment w s miss = (by.other w refl, ap (λ a. if a then s.position else 0) comment_is_no_end, λ e place. ap (λ a. other_failures a comment place s Failure) comment_is_no_end)

zero_between : (a b : ℕ) → max a (max 0 b) ≡ max a b
zero_between a b = omega arith

-- where neither a blank nor a comment can begin, nothing is skipped
pub trivia_takes : (p : Program) (h k j : FirstSet) → IsSkipFirstSet p whitespace h → IsSkipFirstSet p comment k → IsJoin h k j → IsTriviaFirstSet p j
trivia_takes p h k j b n joined = record { takes = takes }
  where
    takes : (classes : Classes) → Fits p.properties.items classes → TakesNothing (grammar_in p) classes (Skipping NonAtomicMode) j.ranges.items true j.noted
    takes classes fits s miss =
        let i = misses_parts h.ranges.items k.ranges.items s.rest (subst (λ r. Misses r s.rest) joined.ranges miss) in
        let u = b.fails classes fits s i.0 in
        let v = n.fails classes fits s i.1 in (
          by.skips (by.seq (by.rep_none u.0) by.between (by.rep_none (by.seq_first v.0))),
          zero_between (furthest u.0) (furthest v.0)
              ∙ (ap₂ (λ x y. max x y) u.1 v.1 ∙ (greater_place h.noted k.noted s.position ∙ ap (λ x. place_of x s Failure) (sym joined.noted))),
          λ e. three_unless h.noted k.noted u.2 (λ e place. refl) v.2 (sym joined.noted ∙ e),
        )

-- What the implicit skipping takes.
use Rattle.std.proofs.Common.{◌≡◌, refl, sym, ◌∙◌, ap, ap₂, subst, ℕ, ◌<◌, ◌||◌, List, [], ◌∷◌, Bool, true, false, None, Some, add-zero, bytes_eq, get_or, length, if◌then◌else◌}
use Rattle.std.specs.Prelude.{Err, IfOk, IfSome, Ok, Option, Result}
use Rattle.base_ast.specs.Ast.{rule_type_of}
use Rattle.base_language.specs.Language.Expression.{Grammar, Ident, Rep, Rule, Silent, comment, rule_of, whitespace}
use Rattle.base_language.specs.Language.Meaning as by
use Rattle.base_language.specs.Language.Meaning.{Does, Run, Skipping, body_mode, gives_token, inherited, mode_in, seen_from, with_token}
use Rattle.base_language.specs.Language.State.{AtomicMode, Between, Classes, CompoundAtomicMode, Failure, NonAtomicMode, None', State, Success, moved}
use Rattle.base_language.specs.Language.Text.{Text}
use Rattle.base_language.proofs.Basics.{same_some}
use Rattle.matcher_code.specs.Lists.{CodeLists}
use Rattle.matcher_code.specs.Failures.{both, in_silence, no_failure}
use Rattle.matcher_code.specs.declared.code.Code.{Code}
use Rattle.matcher_code.specs.Laid as lay
use Rattle.matcher_code.specs.Laid.{FailsOutside, HasOutcome, IsPart, IsPoint, IsSilent, IsTight, TakesSome, skip_set, span_of}
use Rattle.matcher_code.proofs.Characters.{silent_call_of_some, span_of_some}
use Rattle.matcher_program.specs.declared.form.Program.{Program}
use Rattle.matcher_program.specs.declared.form.ProgramRule.{ProgramRule}
use Rattle.matcher_program.specs.Programs.{IsRuleOf, IsSkippedRule, name_at, names_of}
use Rattle.matcher_sets.specs.declared.modes.Atomicity as code
use Rattle.matcher_compiler.specs.declared.plan.Skips.TheVariants as skips
use Rattle.matcher_sets.specs.declared.modes.Atomicity.TheVariants as mode
use Rattle.matcher_sets.specs.declared.first_sets.FirstSet.{FirstSet}
use Rattle.matcher_sets.specs.Modes.{mode_of}
use Rattle.matcher_sets.specs.Differences.{BeginsWith}
use Rattle.matcher_sets.specs.Forms.{IsSoundProgram, grammar_in, no_rule, said}
use Rattle.matcher_compiler.specs.Plans.{FailsWithout, IsBlankSet, SkipsAs, blanks, one_comment}
use Rattle.matcher_sets.proofs.Skipping.{IsSkipName, comment_is_no_end, does_between, rule_is_skipped, same_mode, same_tokens, skipped_named, white_is_no_end}
use Rattle.matcher_sets.proofs.Leaves.{other_failures}
use Rattle.matcher_sets.proofs.Rules.{made, same}

-- neither name is a rule's
pub tight_nowhere : (g : Grammar) (classes : Classes) → rule_of g whitespace ≡ None → rule_of g comment ≡ None → IsTight g classes NonAtomicMode
tight_nowhere g classes w m s = (
  by.skips (by.seq (by.rep_none (by.other w refl)) by.between (by.rep_none (by.seq_first (by.other m refl)))),
  λ place. ap₂ (λ a b. both (other_failures a whitespace place s Failure) (both no_failure (other_failures b comment place s Failure)))
      white_is_no_end comment_is_no_end,
)

pub tight_atomic : (g : Grammar) (classes : Classes) → IsTight g classes AtomicMode
tight_atomic g classes s = (by.atomic, λ place. refl)

pub tight_compound : (g : Grammar) (classes : Classes) → IsTight g classes CompoundAtomicMode
tight_compound g classes s = (by.compound_atomic, λ place. refl)

-- the mode in which a silent rule of the skipping runs
blank_mode : (b : Bool) → (m : code.Atomicity) × (mode_of m ≡ inherited b Between)
blank_mode true = (mode.Atomic, refl)
blank_mode false = (mode.NonAtomic, refl)

-- all blanks that there are, where there are no comments
pub blanks_alone : (g : Grammar) (classes : Classes) (set : ℕ → Bool) → rule_of g comment ≡ None
    → HasOutcome g classes (Run Between blanks) (skip_set set) in_silence → HasOutcome g classes (Skipping NonAtomicMode) (skip_set set) in_silence
blanks_alone g classes set m has s =
    let x = has s in (
      by.skips (by.seq x.0 by.between (by.rep_none (by.seq_first (by.other m refl)))),
      λ place. ap₂ (λ a b. both a (both no_failure (other_failures b comment place (moved (span_of set s.rest) s) Failure))) (x.1 place) comment_is_no_end,
    )

pub tight_between : (g : Grammar) (classes : Classes) → IsTight g classes Between
tight_between g classes s = (by.between, λ place. refl)

-- the characters that the body of the rule matches are blanks
pub blanks_any : (p : Program) (i : ℕ) (program_rule : ProgramRule) (classes : Classes) (set : ℕ → Bool) → IsSoundProgram p → p.whitespace ≡ Some i
    → (within : i < length p.rules.items) → (is : program_rule ≡ get_or p.rules.items i program_rule) → rule_type_of program_rule.kind ≡ Silent
    → BeginsWith p classes program_rule.body set → HasOutcome (grammar_in p) classes (Run Between blanks) (skip_set set) in_silence
blanks_any p i program_rule classes set sound white within is silent matches =
    let r = made p i program_rule within is in
    let w = subst (IsSkippedRule (grammar_in p) whitespace) white sound.whitespace_is in
    let meant : rule_of (grammar_in p) whitespace ≡ Some r = w.meant no_rule ∙ ap Some (same p i program_rule within is no_rule) in
    let k = blank_mode (bytes_eq r.name whitespace || bytes_eq r.name comment) in
    let m : mode_of k.0 ≡ body_mode r Between = k.1 ∙ ap (λ y. mode_in y (bytes_eq r.name whitespace || bytes_eq r.name comment) Between) (sym silent) in
    let z : (s : State) → TakesSome (grammar_in p) classes (Run (body_mode r Between) (said p program_rule.body)) s set
    = λ s. subst (λ z. TakesSome (grammar_in p) classes (Run z (said p program_rule.body)) s set) m (matches k.0 s) in
    span_of_some (grammar_in p) classes Between (Ident whitespace) set (tight_between (grammar_in p) classes)
    (silent_call_of_some (grammar_in p) classes Between whitespace r set meant (ap (λ t. by.gives_token t Between) silent) z)

-- without a rule of that name there are no blanks
span_none : (cs : Text) → span_of (λ c. false) cs ≡ 0
span_none [] = refl
span_none (c ∷ cs) = refl

moved_none : (s : State) → moved 0 s ≡ s
moved_none s = go s.position s.rest s.stack
  where
    go : (q : ℕ) (cs : Text) (ts : List Text) → moved 0 (record { position = q; rest = cs; stack = ts }) ≡ record { position = q; rest = cs; stack = ts }
    go q [] ts = ap (λ n. record { position = n; rest = []; stack = ts }) (add-zero q)
    go q (c ∷ cs) ts = ap (λ n. record { position = n; rest = c ∷ cs; stack = ts }) (add-zero q)

pub no_blanks : (g : Grammar) (classes : Classes) → rule_of g whitespace ≡ None → HasOutcome g classes (Run Between blanks) (skip_set (λ c. false)) in_silence
no_blanks g classes w s =
    let e : moved (span_of (λ c. false) s.rest) s ≡ s = ap (λ n. moved n s) (span_none s.rest) ∙ moved_none s in
    subst (λ t. (d : Does g classes (Run Between blanks) s (Success t None')) × IsSilent d) (sym e)
    (by.rep_none (by.other w refl), λ place. ap (λ a. other_failures a whitespace place s Failure) white_is_no_end)

-- blanks, with comments or without
pub skips_ready : (p : Program) (sets : Code) (set : ℕ) (b : Bool) → (b ≡ false → rule_of (grammar_in p) comment ≡ None) → IsBlankSet p sets set
    → SkipsAs p sets (if b then skips.Comments set else skips.Blanks set)
skips_ready p sets set true none is = is
skips_ready p sets set false none is = (none refl, is)

module _ (g : Grammar) (classes : Classes) (x : Text) (r : Rule) (h : rule_of g x ≡ Some r) (b : (bytes_eq r.name whitespace || bytes_eq r.name comment) ≡ true) where
  module _ (exact : Bool) (code : CodeLists) (number : Text → ℕ) (points : List lay.Point) where
    pub laid_between : {rank l n w : ℕ} → lay.Lays exact g classes code number points rank (Run NonAtomicMode (Ident x)) l n w → lay.Lays exact g classes code number points rank (Run Between (Ident x)) l n w
    laid_between (lay.leaf f failures has performs) =
        lay.leaf f failures (λ s. let y = has s in let z = does_between g classes x r h b s (f s) y.0 in (z.0, λ place. z.1 place ∙ y.1 place)) performs
    laid_between (lay.read f free reads has performs) = absurd (taken (sym h ∙ free))
      where
        taken : Some r ≡ None → ⊥
        taken e = cc
    laid_between (lay.call q first last counts e t i a p z) =
        let k : q ≡ r = same_some (sym e ∙ h) in
        lay.call q first last counts e (sym (same_tokens q.type_of) ∙ t) i a
        (subst (λ m. IsPoint points (Run m q.body) first last 0) (subst (λ y. body_mode y NonAtomicMode ≡ body_mode y Between) (sym k) (same_mode g classes x r h b)) p) z
    laid_between {rank} {l} {n} {w} (lay.in_place q e t p) =
        let k : q ≡ r = same_some (sym e ∙ h) in
        lay.in_place q e (sym (same_tokens q.type_of) ∙ t)
        (subst (λ m. IsPart points rank (Run m q.body) l n w) (subst (λ y. body_mode y NonAtomicMode ≡ body_mode y Between) (sym k) (same_mode g classes x r h b)) p)
    laid_between (lay.sub q first last e t a p z) =
        let k : q ≡ r = same_some (sym e ∙ h) in
        lay.sub q first last e (sym (same_tokens q.type_of) ∙ t) a
        (subst (λ m. IsPoint points (Run m q.body) first last 0) (subst (λ y. body_mode y NonAtomicMode ≡ body_mode y Between) (sym k) (same_mode g classes x r h b)) p) z

-- without a rule of that name there are no comments
pub no_comments : (g : Grammar) (classes : Classes) → rule_of g comment ≡ None
    → HasOutcome g classes (Run Between (Rep one_comment)) (skip_set (λ c. false)) in_silence
no_comments g classes m s =
    let e : moved (span_of (λ c. false) s.rest) s ≡ s = ap (λ n. moved n s) (span_none s.rest) ∙ moved_none s in
    subst (λ t. (d : Does g classes (Run Between (Rep one_comment)) s (Success t None')) × IsSilent d) (sym e)
    (by.rep_none (by.seq_first (by.other m refl)), λ place. ap (λ a. other_failures a comment place s Failure) comment_is_no_end)

-- a rule that is called in the implicit skipping
module _ (p : Program) (x : Text) (i : ℕ) (meant : IsRuleOf (grammar_in p) x i) (blank : IsSkipName x) where
  pub skipped_laid : (exact : Bool) (classes : Classes) (code : CodeLists) (number : Text → ℕ) (points : List lay.Point) {rank l n w : ℕ}
      → lay.Lays exact (grammar_in p) classes code number points rank (Run NonAtomicMode (Ident (name_at (names_of p.rules.items) i))) l n w
      → lay.Lays exact (grammar_in p) classes code number points rank (Run Between (Ident x)) l n w
  skipped_laid exact classes code number points {rank = rank} {l = l} {n = n} {w = w} y =
      laid_between (grammar_in p) classes x (get_or (grammar_in p) i no_rule) (meant.meant no_rule) (rule_is_skipped p x i meant blank) exact code number points
      (subst (λ z. lay.Lays exact (grammar_in p) classes code number points rank (Run NonAtomicMode (Ident z)) l n w) (skipped_named p x i meant) y)

-- two facts of a value give a third
pub both_on_some : {X E : Type 0} {P Q R : X → Type 0} (r : Result (Option X) E) → ((x : X) → P x → Q x → R x)
    → IfOk r (λ made. IfSome made P) → IfOk r (λ made. IfSome made Q) → IfOk r (λ made. IfSome made R)
both_on_some (Ok (Some x)) f p q = f x p q
both_on_some (Ok None) f p q = tt
both_on_some (Err e) f p q = tt

-- where a comment cannot begin, there is none with blanks behind it
pub comment_fails : (p : Program) (h : FirstSet) → FailsWithout p (Run Between (Ident comment)) h → FailsWithout p (Run Between one_comment) h
comment_fails p h fails classes fits s miss = let y = fails classes fits s miss in (by.seq_first y.0, y.1, y.2)

-- the rules `COMMENT` and `WHITESPACE` of a program
pub comment_meant : (p : Program) (i : ℕ) → IsSoundProgram p → p.comment ≡ Some i → IsRuleOf (grammar_in p) comment i
comment_meant p i sound is = subst (IsSkippedRule (grammar_in p) comment) is sound.comment_is

pub white_meant : (p : Program) (i : ℕ) → IsSoundProgram p → p.whitespace ≡ Some i → IsRuleOf (grammar_in p) whitespace i
white_meant p i sound is = subst (IsSkippedRule (grammar_in p) whitespace) is sound.whitespace_is

-- How a run ends, by what comes of the rule.
use Rattle.std.proofs.Common.{◌≡◌, ◌≢◌, ◌⊎◌, inl, inr, sym, ◌∙◌, ℕ, ◌+◌, ◌≤◌, List, Option, Result, codes, string_bytes, arith, subst}
use Rattle.std.specs.Prelude.{chars, option_map}
use Rattle.base_language.specs.Language.Expression.{Grammar, Ident}
use Rattle.base_language.specs.Language.State.{NonAtomicMode, Success}
use Rattle.pest_meta.specs.Written.{IsWritten}
use Rattle.pest_run.specs.Ends.{EndsAs}
use Rattle.matcher_support.specs.Sets.{is_in_property}
use Rattle.matcher_program.specs.Answers.{start_of}
use Rattle.pest_run.specs.Messages.{no_rule_text}
use Rattle.pest_run.specs.Outcomes.{IsOutcome, IsShown}
use Rattle.pest_run.specs.Written.{AreMatched, AreRun, IsFormOutcome, NotesEnd, PrintsTrees, ReportsReason, ReportsRefusal, ReportsStop, WritesLine, empty_stack, long_text, no_match, no_rule, refused, too_many_steps, unknown_name, unnamed, wide_bound}
use Rattle.pest_run.specs.declared.arguments.Format.{Format}
use Rattle.pest_run.specs.declared.arguments.Limits.{Limits}
use Rattle.pest_run.specs.declared.arguments.RuleForm.{RuleForm}
use Rattle.pest_run.specs.declared.arguments.RuleForm.TheVariants as form_is
use Rattle.pest_run.specs.declared.outcomes.Outcome.{Outcome}
use Rattle.pest_run.specs.declared.outcomes.Outcome.TheVariants as is

-- two statuses in one
pub apart : (n a b : ℕ) → n ≡ a → n ≡ b → a + 1 ≤ b → ⊥
apart n a b e f h = omega (arith, e, f, h)

pub neither : (n k : ℕ) → (n ≡ 0) ⊎ (n ≡ 4) → n ≡ k → k ≢ 0 → k ≢ 4 → ⊥
neither n k (inl z) e f h = f (sym e ∙ z)
neither n k (inr z) e f h = h (sym e ∙ z)

-- rules by which a text is matched, and which match it
record Matched (form : RuleForm) (grammar rule text : List ℕ) (format : Format) (lines : List ℕ) : Type 0 where
  pub rules : Grammar
  pub matched : AreMatched form grammar rules
  pub shows : IsShown rules rule text format lines

-- what rules match as they are run, those that the text spells match
matched : (form : RuleForm) (grammar rule text : List ℕ) (format : Format) (rules : Grammar) (lines : List ℕ)
    → AreRun form grammar rules → IsShown rules rule text format lines → Matched form grammar rule text format lines
matched form_is.Written grammar rule text format rules lines a i =
    let spelled : IsWritten grammar rules = a in
    record {
      rules = spelled.spelled;
      matched = spelled.accepted;
      shows = record {
        end_ = i.end_;
        trees = i.trees;
        matches = (spelled.outcomes is_in_property (Ident (chars rule)) NonAtomicMode (start_of text) (Success i.end_ i.trees)).1 i.matches;
        lines_show = i.lines_show;
      };
    }
matched form_is.Optimized grammar rule text format rules lines a i = record { rules = rules; matched = a; shows = i }

-- if the status is 0, trees were printed
pub prints : {X E : Type 0} (o : Outcome) (name grammar rule text : List ℕ) (format : Format) (form : RuleForm) (rules : Grammar) (limit : Limits) (told : Result X E) (same : Type 0) (status : ℕ)
    (old_out new_out old new : Option (List ℕ)) → AreRun form grammar rules → IsOutcome rules rule name text format limit o
    → EndsAs o same status told old_out new_out old new → status ≡ 0 → PrintsTrees form grammar rule text format old_out new_out
prints (is.Shown lines note) name grammar rule text format form rules limit told same status old_out new_out old new a i e zero =
    let m = matched form grammar rule text format rules (string_bytes lines) a i.0 in
    record { rules = m.rules; matched = m.matched; lines = string_bytes lines; shows = m.shows; gained = e.1 zero }
prints (is.Failed report) name grammar rule text format form rules limit told same status old_out new_out old new a i e zero = absurd (apart status 0 1 zero e.0 (omega arith))
prints (is.Unnamed report) name grammar rule text format form rules limit told same status old_out new_out old new a i e zero = absurd (apart status 0 1 zero e.0 (omega arith))
prints (is.NoRule said) name grammar rule text format form rules limit told same status old_out new_out old new a i e zero = absurd (apart status 0 1 zero e.0 (omega arith))
prints (is.OutOfSteps said) name grammar rule text format form rules limit told same status old_out new_out old new a i e zero = absurd (apart status 0 5 zero e.0 (omega arith))
prints is.EmptyStack name grammar rule text format form rules limit told same status old_out new_out old new a i e zero = absurd (apart status 0 5 zero e.0 (omega arith))
prints is.LongText name grammar rule text format form rules limit told same status old_out new_out old new a i e zero = absurd (apart status 0 5 zero e.0 (omega arith))
prints is.UnknownName name grammar rule text format form rules limit told same status old_out new_out old new a i e zero = absurd (apart status 0 5 zero e.0 (omega arith))
prints is.Bound name grammar rule text format form rules limit told same status old_out new_out old new a i e zero = absurd (apart status 0 5 zero e.0 (omega arith))
prints is.Memory name grammar rule text format form rules limit told same status old_out new_out old new a i e zero = absurd (apart status 0 2 zero e (omega arith))

-- and the note on their end was written
pub notes : {X E : Type 0} (o : Outcome) (name grammar rule text : List ℕ) (format : Format) (form : RuleForm) (rules : Grammar) (limit : Limits) (told : Result X E) (same : Type 0) (status : ℕ)
    (old_out new_out old new : Option (List ℕ)) → AreRun form grammar rules → IsOutcome rules rule name text format limit o
    → EndsAs o same status told old_out new_out old new → status ≡ 0 → NotesEnd form grammar rule text format limit same told old new
notes (is.Shown lines note) name grammar rule text format form rules limit told same status old_out new_out old new a i e zero =
    record { rules = rules; are = a; note = option_map string_bytes note; noted = i.1; line = e.2 zero }
notes (is.Failed report) name grammar rule text format form rules limit told same status old_out new_out old new a i e zero = absurd (apart status 0 1 zero e.0 (omega arith))
notes (is.Unnamed report) name grammar rule text format form rules limit told same status old_out new_out old new a i e zero = absurd (apart status 0 1 zero e.0 (omega arith))
notes (is.NoRule said) name grammar rule text format form rules limit told same status old_out new_out old new a i e zero = absurd (apart status 0 1 zero e.0 (omega arith))
notes (is.OutOfSteps said) name grammar rule text format form rules limit told same status old_out new_out old new a i e zero = absurd (apart status 0 5 zero e.0 (omega arith))
notes is.EmptyStack name grammar rule text format form rules limit told same status old_out new_out old new a i e zero = absurd (apart status 0 5 zero e.0 (omega arith))
notes is.LongText name grammar rule text format form rules limit told same status old_out new_out old new a i e zero = absurd (apart status 0 5 zero e.0 (omega arith))
notes is.UnknownName name grammar rule text format form rules limit told same status old_out new_out old new a i e zero = absurd (apart status 0 5 zero e.0 (omega arith))
notes is.Bound name grammar rule text format form rules limit told same status old_out new_out old new a i e zero = absurd (apart status 0 5 zero e.0 (omega arith))
notes is.Memory name grammar rule text format form rules limit told same status old_out new_out old new a i e zero = absurd (apart status 0 2 zero e (omega arith))

-- if it is 1, a reason was told
pub tells : {X E : Type 0} (o : Outcome) (name grammar rule text : List ℕ) (format : Format) (form : RuleForm) (rules : Grammar) (limit : Limits) (told : Result X E) (same : Type 0) (status : ℕ)
    (old_out new_out old new : Option (List ℕ)) → AreRun form grammar rules → IsOutcome rules rule name text format limit o
    → EndsAs o same status told old_out new_out old new → status ≡ 1 → ReportsReason form grammar rule name text limit told old new
tells (is.Shown lines _) name grammar rule text format form rules limit told same status old_out new_out old new a i e one = absurd (neither status 1 e.0 one (omega arith) (omega arith))
tells (is.Failed report) name grammar rule text format form rules limit told same status old_out new_out old new a i e one =
    record { message = string_bytes report; reason = no_match rules (string_bytes report) a i; line = e.1 }
tells (is.Unnamed report) name grammar rule text format form rules limit told same status old_out new_out old new a i e one =
    record { message = string_bytes report; reason = unnamed rules (string_bytes report) a i; line = e.1 }
tells (is.NoRule said) name grammar rule text format form rules limit told same status old_out new_out old new a i e one =
    let P : List ℕ → Type 0 = λ t. WritesLine t told old new in
    record { message = no_rule_text rules rule; reason = no_rule rules a i.0; line = subst P i.1 e.1 }
tells (is.OutOfSteps said) name grammar rule text format form rules limit told same status old_out new_out old new a i e one = absurd (apart status 1 5 one e.0 (omega arith))
tells is.EmptyStack name grammar rule text format form rules limit told same status old_out new_out old new a i e one = absurd (apart status 1 5 one e.0 (omega arith))
tells is.LongText name grammar rule text format form rules limit told same status old_out new_out old new a i e one = absurd (apart status 1 5 one e.0 (omega arith))
tells is.UnknownName name grammar rule text format form rules limit told same status old_out new_out old new a i e one = absurd (apart status 1 5 one e.0 (omega arith))
tells is.Bound name grammar rule text format form rules limit told same status old_out new_out old new a i e one = absurd (apart status 1 5 one e.0 (omega arith))
tells is.Memory name grammar rule text format form rules limit told same status old_out new_out old new a i e one = absurd (apart status 1 2 one e (omega arith))

-- if it is 5, why the matcher was stopped was told
pub stops : {X E : Type 0} (o : Outcome) (name grammar rule text : List ℕ) (format : Format) (form : RuleForm) (rules : Grammar) (limit : Limits) (told : Result X E) (same : Type 0) (status : ℕ)
    (old_out new_out old new : Option (List ℕ)) → AreRun form grammar rules → IsOutcome rules rule name text format limit o
    → EndsAs o same status told old_out new_out old new → status ≡ 5 → ReportsStop form grammar rule text limit told old new
stops (is.Shown lines _) name grammar rule text format form rules limit told same status old_out new_out old new a i e five = absurd (neither status 5 e.0 five (omega arith) (omega arith))
stops (is.Failed report) name grammar rule text format form rules limit told same status old_out new_out old new a i e five = absurd (apart status 1 5 e.0 five (omega arith))
stops (is.Unnamed report) name grammar rule text format form rules limit told same status old_out new_out old new a i e five = absurd (apart status 1 5 e.0 five (omega arith))
stops (is.NoRule said) name grammar rule text format form rules limit told same status old_out new_out old new a i e five = absurd (apart status 1 5 e.0 five (omega arith))
stops (is.OutOfSteps said) name grammar rule text format form rules limit told same status old_out new_out old new a i e five =
    record { rules = rules; are = a; message = string_bytes said; stop = too_many_steps (string_bytes said) i.0 i.1; line = e.1 }
stops is.EmptyStack name grammar rule text format form rules limit told same status old_out new_out old new a i e five = record { rules = rules; are = a; message = codes "PEEK or POP found nothing on the stack"; stop = empty_stack i; line = e.1 }
stops is.LongText name grammar rule text format form rules limit told same status old_out new_out old new a i e five = record { rules = rules; are = a; message = codes "the text has 4 GiB or more"; stop = long_text i; line = e.1 }
stops is.UnknownName name grammar rule text format form rules limit told same status old_out new_out old new a i e five = record { rules = rules; are = a; message = codes "the grammar calls a rule that is not known"; stop = unknown_name i; line = e.1 }
stops is.Bound name grammar rule text format form rules limit told same status old_out new_out old new a i e five = record { rules = rules; are = a; message = codes "a range of the grammar has a bound that is no character"; stop = wide_bound i; line = e.1 }
stops is.Memory name grammar rule text format form rules limit told same status old_out new_out old new a i e five = absurd (apart status 2 5 e five (omega arith))

-- a refusal is a reason
pub refusal_is_reason : {X E : Type 0} (form : RuleForm) (grammar rule name text : List ℕ) (limit : Limits) (told : Result X E) (old new : Option (List ℕ))
    → ReportsRefusal grammar told old new → ReportsReason form grammar rule name text limit told old new
refusal_is_reason form grammar rule name text limit told old new r =
    record { message = r.tells.report; reason = refused r.is_terminal r.errors r.tells.report r.refused r.tells.shows; line = r.tells.line }

-- the same of an outcome by the rules of a grammar
module _ {X E : Type 0} (o : Outcome) (name grammar rule text : List ℕ) (format : Format) (form : RuleForm) (limit : Limits) (told : Result X E) (same : Type 0) (status : ℕ)
    (old_out new_out old new : Option (List ℕ)) (comes : IsFormOutcome form grammar rule name text format limit o) (e : EndsAs o same status told old_out new_out old new) where
  -- an allocation failure has a status of its own
  no_memory : (k : ℕ) → o ≡ is.Memory → status ≡ k → (k ≡ 2 → ⊥) → ⊥
  no_memory k m s apart_ =
      let two : status ≡ 2 = subst (λ o. EndsAs o same status told old_out new_out old new) m e in
      apart_ (sym s ∙ two)

  pub form_prints : status ≡ 0 → PrintsTrees form grammar rule text format old_out new_out
  form_prints zero = elim comes [
    | inl m ↦ absurd (no_memory 0 m zero (λ z. omega (arith, z)))
    | inr x ↦ prints o name grammar rule text format form x.0 limit told same status old_out new_out old new x.1 x.2 e zero
  ]

  pub form_notes : status ≡ 0 → NotesEnd form grammar rule text format limit same told old new
  form_notes zero = elim comes [
    | inl m ↦ absurd (no_memory 0 m zero (λ z. omega (arith, z)))
    | inr x ↦ notes o name grammar rule text format form x.0 limit told same status old_out new_out old new x.1 x.2 e zero
  ]

  pub form_tells : status ≡ 1 → ReportsReason form grammar rule name text limit told old new
  form_tells one = elim comes [
    | inl m ↦ absurd (no_memory 1 m one (λ z. omega (arith, z)))
    | inr x ↦ tells o name grammar rule text format form x.0 limit told same status old_out new_out old new x.1 x.2 e one
  ]

  pub form_stops : status ≡ 5 → ReportsStop form grammar rule text limit told old new
  form_stops five = elim comes [
    | inl m ↦ absurd (no_memory 5 m five (λ z. omega (arith, z)))
    | inr x ↦ stops o name grammar rule text format form x.0 limit told same status old_out new_out old new x.1 x.2 e five
  ]

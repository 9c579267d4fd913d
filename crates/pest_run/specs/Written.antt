-- The texts that the program writes.
use Rattle.std.specs.Prelude.{◌≡◌, ◌⊎◌, ◌≤◌, ◌^◌, ℕ, Bool, List, Option, Some, None, Result, IsUtf8, codes, length, string_bytes}
use Rattle.std.specs.Borrow.{Bor}
use Rattle.std.specs.Io.KnownBytes.{Appends}
use Rattle.base_ast.specs.Optimized.{optimized_rules_of}
use Rattle.base_ast.specs.declared.optimized.OptimizedRule.{OptimizedRule}
use Rattle.base_language.specs.Language.Expression.{Grammar}
use Rattle.base_language.specs.declared.grammar.Rule.{Rule}
use Rattle.base_language.specs.declared.runtime.errors.Error.{Error}
use Rattle.pest_meta.specs.Spelling.{IsAnswer, IsRefusedWith}
use Rattle.pest_meta.specs.Written.{IsWritten, SpellsAccepted}
pub use Rattle.program_support.specs.Ends.{IsReportFor, WritesLine, WritesNote, WritesReport}
use Rattle.pest_run.specs.Messages.{IsStepsText, no_rule_text, unread_text}
use Rattle.pest_run.specs.Outcomes.{CallsUnknownName, HasFailed, HasNoOutcome, HasNoRule, HasUnnamed, HasWrongBound, IsNoted, IsOutcome, IsShown, TakesTooManySteps}
use Rattle.pest_run.specs.declared.arguments.Format.{Format}
use Rattle.pest_run.specs.declared.arguments.Limits.{Limits}
use Rattle.pest_run.specs.declared.arguments.RuleForm.{RuleForm}
use Rattle.pest_run.specs.declared.arguments.RuleForm.TheVariants as form_is
use Rattle.pest_run.specs.declared.outcomes.Outcome.{Outcome}
use Rattle.pest_run.specs.declared.outcomes.Outcome.TheVariants as is
use Rattle.pest_run.specs.declared.sources.Source.{Source}

-- the file could be read, and is text
abbrev pub IsReadable : Source → Type 0
IsReadable source = (source.why ≡ None) × IsUtf8 source.bytes.items

-- why it can't be read
abbrev pub why_unread : Source → List ℕ
why_unread source = elim source.why [ Some why ↦ string_bytes why | None ↦ codes "it is not UTF-8" ]

-- the line says that the file can't be read and why, or that an allocation failed
abbrev pub WritesUnread : {X E : Type 0} → Source → Result X E → Option (List ℕ) → Option (List ℕ) → Type 0
WritesUnread source written old new =
    WritesLine (unread_text source.name.now (why_unread source)) written old new
    ⊎ WritesLine (codes "cannot read a file: out of memory") written old new

-- a file of the two can't be read, and the line says so
pub record ReportsUnread {X E : Type 0} (grammar text : Source) (written : Result X E)
    (old new : Option (List ℕ)) : Type 0 where
  pub source : Source
  pub given : (source ≡ grammar) ⊎ (source ≡ text)
  pub unreadable : IsReadable source → ⊥
  pub line : WritesUnread source written old new

-- the grammar is refused, and the report, for a terminal or not, is the line
pub record ReportsRefusal {X E : Type 0} (grammar : List ℕ) (written : Result X E)
    (old new : Option (List ℕ)) : Type 0 where
  pub is_terminal : Bool
  pub errors : List (Error Rule)
  pub refused : IsRefusedWith grammar errors
  pub tells : WritesReport is_terminal errors written old new

-- the rules that the optimizer returns for a grammar
pub record AreAnswered (grammar : List ℕ) (rules : Grammar) : Type 0 where
  pub builtins : List (Bor (List ℕ))
  pub answer : List OptimizedRule
  pub answers : IsAnswer grammar builtins answer
  pub same : rules ≡ optimized_rules_of answer

-- a text is matched by the rules that the grammar's text spells, or by those that the optimizer returns for
-- it
abbrev pub AreMatched : RuleForm → List ℕ → Grammar → Type 0
AreMatched form_is.Written grammar rules = SpellsAccepted grammar rules
AreMatched form_is.Optimized grammar rules = AreAnswered grammar rules

-- these rules, as they are run: of those that the text spells, counted repetitions are written out
abbrev pub AreRun : RuleForm → List ℕ → Grammar → Type 0
AreRun form_is.Written grammar rules = IsWritten grammar rules
AreRun form_is.Optimized grammar rules = AreAnswered grammar rules

-- the outcome is that of the rule by the rules of the grammar, as they are run; an allocation failure is not
-- constrained
abbrev pub IsFormOutcome : RuleForm → (grammar rule name text : List ℕ) → Format → Limits → Outcome → Type 0
IsFormOutcome form grammar rule name text format limits outcome = (outcome ≡ is.Memory)
    ⊎ ((rules : Grammar) × AreRun form grammar rules × IsOutcome rules rule name text format limits outcome)

-- the rule of the grammar matches the text, and the writer's contents grew by the trees
pub record PrintsTrees (form : RuleForm) (grammar rule text : List ℕ) (format : Format)
    (old new : Option (List ℕ)) : Type 0 where
  pub rules : Grammar
  pub matched : AreMatched form grammar rules
  pub lines : List ℕ
  pub shows : IsShown rules rule text format lines
  pub gained : Appends old new lines

-- the rule of the grammar matches the text, and the note on its end was written
pub record NotesEnd {X E : Type 0} (form : RuleForm) (grammar rule text : List ℕ) (format : Format)
    (limits : Limits) (same : Type 0) (written : Result X E) (old new : Option (List ℕ)) : Type 0 where
  pub rules : Grammar
  pub are : AreRun form grammar rules
  pub note : Option (List ℕ)
  pub noted : IsNoted rules rule text format limits.names note
  pub line : WritesNote note same written old new

-- the reason why there are no trees, and its text: the grammar is refused, and its report is the text; or it
-- has no rule of that name; or the rule fails, and the text reports that on the text of the file, with what
-- is expected, or that this was not found in a given number of steps
pub data IsReason (form : RuleForm) (grammar rule name text : List ℕ) (limits : Limits)
    : List ℕ → Type 0 where
  refused : (is_terminal : Bool) (errors : List (Error Rule)) (report : List ℕ) → IsRefusedWith grammar errors
      → IsReportFor is_terminal errors report → IsReason form grammar rule name text limits report
  no_rule : (rules : Grammar) → AreRun form grammar rules → HasNoRule rules rule
      → IsReason form grammar rule name text limits (no_rule_text rules rule)
  no_match : (rules : Grammar) (report : List ℕ) → AreRun form grammar rules
      → HasFailed rules rule name text report → IsReason form grammar rule name text limits report
  unnamed : (rules : Grammar) (report : List ℕ) → AreRun form grammar rules
      → HasUnnamed rules rule name text limits.names report
      → IsReason form grammar rule name text limits report

-- there is such a reason, and it is the line
pub record ReportsReason {X E : Type 0} (form : RuleForm) (grammar rule name text : List ℕ) (limits : Limits)
    (written : Result X E) (old new : Option (List ℕ)) : Type 0 where
  pub message : List ℕ
  pub reason : IsReason form grammar rule name text limits message
  pub line : WritesLine message written old new

-- the reason why the matcher was stopped on the text, and its text: too many steps; or the rule has no
-- outcome and `PEEK` or `POP` met the empty stack; or the text has 4 GiB;
-- or the rules can't be run, for an unknown name or a bound
pub data IsStop (g : Grammar) (rule text : List ℕ) (limit : ℕ) : List ℕ → Type 0 where
  too_many_steps : (message : List ℕ) → TakesTooManySteps g rule text limit → IsStepsText limit message
      → IsStop g rule text limit message
  empty_stack : HasNoOutcome g rule text
      → IsStop g rule text limit (codes "PEEK or POP found nothing on the stack")
  long_text : 2 ^ 32 ≤ length text → IsStop g rule text limit (codes "the text has 4 GiB or more")
  unknown_name : CallsUnknownName g
      → IsStop g rule text limit (codes "the grammar calls a rule that is not known")
  wide_bound : HasWrongBound g
      → IsStop g rule text limit (codes "a range of the grammar has a bound that is no character")

-- the grammar is accepted, the matcher was stopped on the text, and the reason is the line
pub record ReportsStop {X E : Type 0} (form : RuleForm) (grammar rule text : List ℕ) (limits : Limits)
    (written : Result X E) (old new : Option (List ℕ)) : Type 0 where
  pub rules : Grammar
  pub are : AreRun form grammar rules
  pub message : List ℕ
  pub stop : IsStop rules rule text limits.steps message
  pub line : WritesLine message written old new

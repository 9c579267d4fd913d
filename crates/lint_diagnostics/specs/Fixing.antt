-- Texts with fixes.
use Rattle.std.specs.Prelude.{◌≡◌, ℕ, ◌<◌, List, Bool, true, count_by}
use Rattle.base_language.specs.Language.Text.{Text}
use Rattle.lint_findings.specs.Fixes.{AreFixed, IsApplied, is_allowed}
use Rattle.lint_findings.specs.Reports.{is_error}
use Rattle.lint_findings.specs.declared.diagnostic.Diagnostic.{Diagnostic}
use Rattle.lint_hints.specs.declared.help.Fix.{Fix}
use Rattle.lint_diagnostics.specs.Diagnosis.{IsDiagnosis}
use Rattle.pest_meta.specs.Spelling.{HasAnswer}

-- a text is accepted, or has fewer errors than another
pub data IsBetter (starts : List Text) (text next : List ℕ) : Type 0 where
  accepted : HasAnswer next → IsBetter starts text next
  fewer : (before after : List Diagnostic) → IsDiagnosis starts text before → IsDiagnosis starts next after
      → count_by is_error after < count_by is_error before → IsBetter starts text next

-- a text becomes a better one by a fix that is allowed
pub record IsImproved (takes : Bool) (starts : List Text) (text next : List ℕ) : Type 0 where
  pub fix : Fix
  pub allowed : is_allowed takes fix.applicability ≡ true
  pub applied : IsApplied text fix next
  pub better : IsBetter starts text next

-- by fixes, one after another
pub data AreImproved (takes : Bool) (starts : List Text) (text : List ℕ) : List ℕ → Type 0 where
  none : AreImproved takes starts text text
  more : (earlier last : List ℕ) → AreImproved takes starts text earlier
      → IsImproved takes starts earlier last → AreImproved takes starts text last

-- by fixes of syntax errors, and then by others
pub record IsMended (takes : Bool) (starts : List Text) (text next : List ℕ) : Type 0 where
  pub count : ℕ
  pub between : List ℕ
  pub syntax : AreFixed takes text count between
  pub others : AreImproved takes starts between next

-- Texts that are better after a fix.
use Rattle.std.proofs.Common.{◌≡◌, ◌⊎◌, ◌<◌, ℕ, List, Bool, count_by, false, inl, inr, true}
use Rattle.std.specs.List.{list_any}
use Rattle.base_language.specs.Language.Text.{Text}
use Rattle.lint_findings.specs.Fixes.{IsApplied, is_allowed}
use Rattle.lint_findings.specs.Reports.{is_error}
use Rattle.lint_findings.specs.declared.diagnostic.Diagnostic.{Diagnostic}
use Rattle.lint_hints.specs.declared.help.Fix.{Fix}
use Rattle.lint_diagnostics.specs.Diagnosis.{IsDiagnosis}
use Rattle.lint_diagnostics.specs.Fixing.{IsBetter, IsImproved, accepted, fewer}
use Rattle.pest_meta.specs.Spelling.{HasAnswer}

-- a text without errors is accepted, and another one has fewer
pub better_by : (starts : List Text) (text next : List ℕ) (before after : List Diagnostic) → IsDiagnosis starts text before → IsDiagnosis starts next after
    → (list_any is_error after ≡ false → HasAnswer next) → ((list_any is_error after ≡ false) ⊎ (count_by is_error after < count_by is_error before)) → IsBetter starts text next
better_by starts text next before after old new answers (inl none) = accepted (answers none)
better_by starts text next before after old new answers (inr less) = fewer before after old new less

-- an improvement, from its parts
pub improved_by : (takes : Bool) (starts : List Text) (text next : List ℕ) (fix : Fix) → is_allowed takes fix.applicability ≡ true → IsApplied text fix next → IsBetter starts text next
    → IsImproved takes starts text next
improved_by takes starts text next fix allowed applied better = record {
  fix = fix;
  allowed = allowed;
  applied = applied;
  better = better;
}

use Rattle.std.proofs.Common.{List, ℕ, [], subst, sym}
use Rattle.std.proofs.lemmas.Grind.{merely}
use Rattle.lint_diagnostics.specs.Diagnosis.{IsDiagnosis}
use Rattle.server_features.proofs.diagnoses.Diagnosis.new.Goals as goal

pub invariant_of-result : goal.invariant_of-result
invariant_of-result c = record {
  of_text = merely (subst (λ (t : List ℕ). IsDiagnosis [] t c.in_ok-diagnostics.diagnostics.items) (sym c.in_ok-text.ensures.ok) c.in_ok-diagnostics.ensures.diagnosis);
}

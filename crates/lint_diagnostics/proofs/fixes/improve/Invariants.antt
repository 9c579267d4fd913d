use Rattle.std.proofs.Common.{string_bytes}
use Rattle.lint_diagnostics.specs.Diagnosis.{IsDiagnosis}
use Rattle.lint_diagnostics.specs.Fixing.{AreImproved}
use Rattle.lint_warnings.specs.Lists.{texts_of}
use Rattle.lint_diagnostics.proofs.fixes.improve.Given as goal

abbrev pub invariant-loop-tried : goal.invariant-loop-tried
invariant-loop-tried l = record {
  diagnosis : IsDiagnosis (texts_of l.options.starts.now) (string_bytes l.draft.text) l.draft.diagnostics.items;
  improved : AreImproved l.takes_unsafe (texts_of l.options.starts.now) (string_bytes l.fn.first.text) (string_bytes l.draft.text);
}

use Rattle.std.proofs.Common.{rules, tests}
use Rattle.std.proofs.lemmas.Iterator.{YieldsList-from_slice}
use Rattle.std.proofs.lemmas.Iterator.Search.{any_from_yields_List}
use Rattle.lint_findings.specs.Reports.{is_error}
use Rattle.server_features.proofs.diagnoses.Diagnosis.is_refused.Goals as goal

pub returns : goal.returns
returns c =
    any_from_yields_List is_error _ _ _ c.any.ensures.ran
    (YieldsList-from_slice c.args.self.now.diagnostics.items cc) (λ x b q k. search (rules, tests))

use Rattle.std.proofs.Common.{rules, tests}
use Rattle.std.proofs.lemmas.Iterator.{YieldsList-from_slice}
use Rattle.std.proofs.lemmas.Iterator.Search.{any_from_yields_List}
use Rattle.lint_findings.specs.Allowances.{allows}
use Rattle.lint_findings.proofs.allowances.is_used.Goals as goal

pub returns : goal.returns
returns c =
    any_from_yields_List (λ d. allows d c.args.allowance) _ _ _ c.any.ensures.ran
    (YieldsList-from_slice c.args.diagnostics.now cc) (λ x b q k. search (rules, tests))

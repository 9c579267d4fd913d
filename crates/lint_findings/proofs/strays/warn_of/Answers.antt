use Rattle.std.proofs.Common.{subst}
use Rattle.std.proofs.lemmas.List.{take_all}
use Rattle.std.specs.List.{AllZip}
use Rattle.lint_findings.proofs.Straying.{IsTold, one_told}
use Rattle.lint_findings.proofs.strays.warn_of.Goals as goal

pub loop-stray-preserved : goal.loop-stray-preserved
loop-stray-preserved c = λ text.
    one_told text c.args.strays.now c.loop-stray.stray-index c.stray-item.result _ _ c.in_ok-warning.warning c.loop-stray-test.true c.stray-item.is c.in_ok-push.ensures.items (c.in_ok-warning.ensures text) (c.loop-stray.invariant text)

pub returns : goal.returns
returns c = λ text.
    subst (λ strays. AllZip (IsTold text) strays c.loop-stray.warnings.items) (take_all c.loop-stray.stray-index c.args.strays.now c.loop-stray-test.false) (c.loop-stray.invariant text)

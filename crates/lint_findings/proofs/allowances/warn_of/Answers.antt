use Rattle.std.proofs.Common.{[], ◌∷◌, append_assoc, append-nil}
use Rattle.std.proofs.lemmas.List.{get_or_default}
use Rattle.lint_findings.specs.Allowances.{WarnsOf}
use Rattle.lint_findings.proofs.Zips.{zip_end, zip_next}
use Rattle.lint_findings.proofs.allowances.warn_of.Goals as goal

pub loop-allowance-preserved : goal.loop-allowance-preserved
loop-allowance-preserved c = λ more each.
    rw (c.in_ok-push.ensures.items, append_assoc) (c.loop-allowance.invariant (c.in_ok-warning.warning ∷ more)
    (zip_next WarnsOf c.args.allowances.now c.loop-allowance.allowance-index _ _ more (get_or_default c.args.allowances.now c.loop-allowance.allowance-index _ _ c.loop-allowance-test.true) c.loop-allowance-test.true c.in_ok-warning.ensures each))

pub returns : goal.returns
returns c = rw append-nil at (c.loop-allowance.invariant [] (zip_end WarnsOf c.args.allowances.now c.loop-allowance.allowance-index c.loop-allowance-test.false))

use Rattle.std.proofs.Common.{◌-◌, ap, arith, length}
use Rattle.lint_findings.proofs.Fixing.{behind_fix, below_sum}
use Rattle.lint_findings.proofs.fixes.is_further.Goals as goal

pub returns-then-fix-error : goal.returns-then-fix-error
returns-then-fix-error c = λ h. rw c.in-Some.is
    (behind_fix c.args.error c.args.fix.now c.in-Some.place (length c.as_str-written.result.now) (omega (arith, c.if-place-fix.false)) (omega (arith, c.if-place-fix-2.false)) (ap length c.as_str-written.ensures.value) (omega arith))

pub returns-else-fix-error : goal.returns-else-fix-error
returns-else-fix-error c = λ h. rw c.in-Some.is
    (behind_fix c.args.error c.args.fix.now c.in-Some.place (length c.as_str-written.result.now) (omega (arith, c.if-place-fix.false)) (omega (arith, c.if-place-fix-2.false)) (ap length c.as_str-written.ensures.value) (below_sum c.args.error c.args.fix.now.end (c.in-Some.place - c.args.fix.now.start - length c.as_str-written.result.now) h))

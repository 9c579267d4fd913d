use Rattle.std.proofs.Common.{refl, string_bytes}
use Rattle.lint_findings.specs.Fixes.{none}
use Rattle.lint_findings.proofs.Fixing.{one_more}
use Rattle.lint_findings.proofs.fixes.mend.Goals as goal

pub loop-count-init : goal.loop-count-init
loop-count-init c = record {
  fixed = rw c.in_ok-from_str.ensures.ok none;
  error = rw c.in_ok-from_str.ensures.ok c.in_ok-error.ensures;
  count = refl;
}

pub fix_once-requires : goal.fix_once-requires
fix_once-requires c = rw c.as_str.ensures.value c.loop-count.invariant.error

pub loop-count-preserved : goal.loop-count-preserved
loop-count-preserved c =
    let done = rw (c.in-Some.is, c.as_str.ensures.value) at c.in_ok-fixed.ensures in
    record {
      fixed = one_more c.args.takes_unsafe c.args.text.now (string_bytes c.loop-count.mended.text) (string_bytes c.in-Some.fixed.text) c.loop-count.count c.loop-count.mended.count c.loop-count.invariant.fixed c.loop-count.invariant.count done.0;
      error = done.1;
      count = refl;
    }

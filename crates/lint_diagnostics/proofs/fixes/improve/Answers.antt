use Rattle.std.proofs.Common.{string_bytes}
use Rattle.lint_diagnostics.specs.Fixing.{more, none}
use Rattle.lint_diagnostics.proofs.fixes.improve.Goals as goal

pub loop-tried-init : goal.loop-tried-init
loop-tried-init c = record { diagnosis = c.requires; improved = none }

pub loop-tried-preserved : goal.loop-tried-preserved
loop-tried-preserved c = record {
  diagnosis = rw c.in-Some-2.is at c.in_ok-improved.ensures.known;
  improved = more (string_bytes c.loop-tried.draft.text) (string_bytes c.in-Some-2.improved.draft.text) c.loop-tried.invariant.improved (rw c.in-Some-2.is at c.in_ok-improved.ensures.better);
}

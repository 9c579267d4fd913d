use Rattle.std.proofs.Common.{◌≡◌, ◌+◌, length}
use Rattle.base_ast.specs.Rebuilding.{filled, waiting}
use Rattle.front_restorer.specs.Frames.{filled_in, flagged_by, names_around, names_left, names_to_meet, step_as, waits_around, work_left}
use Rattle.front_restorer.specs.KnownChanges.{AreNumbers, changes_stack}
use Rattle.front_restorer.proofs.restored.restore_iteratively.Given as goal

abbrev pub invariant-steps : goal.invariant-steps
invariant-steps l = record {
  same : filled (filled_in (changes_stack l.changes)) l.outside.items (step_as (changes_stack l.changes) l.step) ≡ flagged_by (changes_stack l.changes) l.fn.expr;
  numbers : AreNumbers l.changes (filled names_around l.outside.items (names_left l.step)) l.place (l.fn.place + length (names_to_meet l.fn.expr));
}

abbrev pub decreases-steps : goal.decreases-steps
decreases-steps l = work_left l.step + waiting waits_around l.outside.items

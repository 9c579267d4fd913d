use Rattle.matcher_sets.specs.Forms.{said}
use Rattle.matcher_compiler.proofs.Shortening.{fallen}
use Rattle.matcher_compiler.proofs.shortcuts.second_ranges.Goals as goal

pub returns-in-Some : goal.returns-in-Some
returns-in-Some c =
    fallen c.args.program.now c.args.mode (said c.args.program.now c.args.left.now) c.args.right.now c.in-Some.ranges.items c.outside_first_set.result c.outside_first_set.ensures
    (rw c.in-Some.is at c.in_ok-made.ensures)

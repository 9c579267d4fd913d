use Rattle.matcher_sets.specs.Forms.{said}
use Rattle.matcher_sets.specs.Modes.{mode_of}
use Rattle.matcher_compiler.proofs.Shortening.{first_takes}
use Rattle.matcher_compiler.proofs.shortcuts.either_ranges.Goals as goal

pub returns-in-Some : goal.returns-in-Some
returns-in-Some c =
    let p = c.args.program.now in
    first_takes p (mode_of c.args.mode) (said p c.args.left.now) (said p c.args.right.now) c.in-Some.ranges.items (rw c.in-Some.is at c.in_ok-made.ensures)

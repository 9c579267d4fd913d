use Rattle.matcher_sets.specs.Forms.{said}
use Rattle.matcher_compiler.proofs.Shortening.{missing, unstopped}
use Rattle.matcher_compiler.proofs.shortcuts.unstopped_ranges.Goals as goal

pub returns-in-Some-clause-refused : goal.returns-in-Some-clause-refused
returns-in-Some-clause-refused c =
    unstopped c.args.program.now c.args.mode (said c.args.program.now c.args.stop.now) c.args.form.now c.in-Some.ranges.items c.outside_first_set.result c.outside_first_set.ensures
    c.requires.tight (rw c.in-Some.is at c.in_ok-made.ensures)

pub returns-in-Some-clause-missing : goal.returns-in-Some-clause-missing
returns-in-Some-clause-missing c =
    missing c.args.program.now c.args.mode (said c.args.program.now c.args.stop.now) c.args.form.now c.in-Some.ranges.items c.outside_first_set.result c.outside_first_set.ensures
    c.requires.tight (rw c.in-Some.is at c.in_ok-made.ensures)

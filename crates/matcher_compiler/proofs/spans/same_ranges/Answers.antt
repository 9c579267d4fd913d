use Rattle.matcher_compiler.proofs.Spanning.{same_span}
use Rattle.matcher_compiler.proofs.spans.same_ranges.Goals as goal

pub returns-in-Some : goal.returns-in-Some
returns-in-Some c = same_span c.args.program.now c.args.mode c.args.form.now c.in-Some.ranges.items c.requires.tight (rw c.in-Some.is at c.in_ok-made.ensures)

use Rattle.std.proofs.lemmas.Bool.{not-false}
use Rattle.front_stack_loops.proofs.Work.{not_alone}
use Rattle.front_stack_loops.proofs.copies.stands_alone.Goals as goal

pub returns-else-not-counts : goal.returns-else-not-counts
returns-else-not-counts c = not_alone c.args.skips c.args.counts.endless c.args.counts.required c.args.counts.optional c.if-not-skips.false (not-false _ c.if-not-counts.false)

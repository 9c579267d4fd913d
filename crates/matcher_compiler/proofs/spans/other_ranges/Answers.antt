use Rattle.matcher_compiler.proofs.Spanning.{other_span}
use Rattle.matcher_compiler.proofs.spans.other_ranges.Goals as goal

pub returns-in-Some-made : goal.returns-in-Some-made
returns-in-Some-made c =
    other_span c.args.program.now c.args.mode c.args.first.now c.args.second.now c.in-Some.others.items c.in-Some-made.ranges.items c.in_ok-rest-in-Some-made.rest.items
    c.requires.tight (rw c.in-Some.is at c.in_ok-refused.ensures) (rw c.in-Some-made.is at c.in_ok-made.ensures) c.in_ok-rest-in-Some-made.ensures

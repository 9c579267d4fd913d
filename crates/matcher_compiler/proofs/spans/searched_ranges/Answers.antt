use Rattle.matcher_compiler.proofs.Spanning.{searched_span}
use Rattle.matcher_compiler.proofs.spans.searched_ranges.Goals as goal

pub returns : goal.returns
returns c = searched_span c.args.texts.now.items c.in-Some.others.items (rw c.in-Some.is at c.in_ok-made.ensures) c.in_ok-ranges.ranges.items c.in_ok-rest.rest.items
    c.in_ok-ranges.ensures c.in_ok-rest.ensures

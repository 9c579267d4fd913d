use Rattle.matcher_engine.specs.Marks.{counts_of}
use Rattle.matcher_engine.specs.Traces.{mark_of}
use Rattle.matcher_engine.proofs.Marking.{marked_popped}
use Rattle.matcher_engine.proofs.tracer.Tracer.pop_mark.Goals as goal

pub invariant_of-self : goal.invariant_of-self
invariant_of-self c =
    let t = c.args.self.now in
    record { marked = marked_popped (counts_of (mark_of t)) c.pop.new.self.items t.marks.items c.pop.result c.pop.ensures.items t.marked }

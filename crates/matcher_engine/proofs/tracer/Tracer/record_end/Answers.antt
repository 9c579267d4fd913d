use Rattle.std.proofs.Common.{◌≡◌, ◌∙◌, ap, ap₂, arith, length, map, refl, reverse}
use Rattle.std.proofs.lemmas.List.{length-take-le}
use Rattle.matcher_engine.specs.Marks.{counts_of}
use Rattle.matcher_engine.specs.Traces.{mark_of, frame_trace, trace_of}
use Rattle.matcher_engine.proofs.Marking.{cut_twice, marked_longer, traces_alike}
use Rattle.matcher_engine.proofs.tracer.Tracer.record_end.Goals as goal

pub invariant_of-self-2 : goal.invariant_of-self-2
invariant_of-self-2 c =
    let t = c.args.self.now in
    let m = c.args.before in
    let v = c.truncate.new.self in
    let u = c.truncate-2.new.self in
    let w = c.requires.within in
    let l : length v.items ≡ m.positives = ap length c.truncate.ensures.items ∙ length-take-le m.positives t.positives.items w.1.1.0 in
    let k : length u.items ≡ m.negatives = ap length c.truncate-2.ensures.items ∙ length-take-le m.negatives t.negatives.items w.1.1.1 in
    record {
      marked = marked_longer (counts_of m) (record (counts_of (mark_of t)) { positives = length v.items; negatives = length u.items }) (reverse t.marks.items)
          (w.0, (w.1.0, (omega (arith, l), omega (arith, k)))) c.requires.marked;
    }

pub returns-clause-traces : goal.returns-clause-traces
returns-clause-traces c =
    let t = c.args.self.now in
    let m = c.args.before in
    c.in_ok-push_attempt.ensures.traces
    ∙ (ap₂ (λ xs ys. map (frame_trace (record (trace_of t) { attempts = record { furthest = c.max-self.result; positives = xs; negatives = ys } })) (reverse t.marks.items))
    c.truncate.ensures.items c.truncate-2.ensures.items
    ∙ traces_alike (counts_of m) (record (trace_of t) { attempts = record { furthest = c.max-self.result; positives = _; negatives = _ } }) (trace_of t) (reverse t.marks.items) c.requires.marked
    (refl, (refl, (cut_twice m.positives t.positives.items, cut_twice m.negatives t.negatives.items))))

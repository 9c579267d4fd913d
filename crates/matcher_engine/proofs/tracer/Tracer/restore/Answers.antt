use Rattle.std.proofs.Common.{◌≡◌, ◌∙◌, Some, ap, ap₂, arith, length, map, refl, reverse}
use Rattle.std.proofs.lemmas.List.{length-take-le}
use Rattle.matcher_code.specs.Steps.{restore}
use Rattle.matcher_engine.specs.Marks.{counts_of}
use Rattle.matcher_engine.specs.Traces.{mark_of, own_trace, paths_in, frame_trace, trace_of}
use Rattle.matcher_engine.proofs.Marking.{cut_twice, marked_longer, paths_cut, traces_alike}
use Rattle.matcher_engine.proofs.tracer.Tracer.restore.Goals as goal

pub invariant_of-self : goal.invariant_of-self
invariant_of-self c =
    let t = c.args.self.now in
    let m = c.in-Some.mark in
    let v = c.truncate.new.self in
    let u = c.truncate-in-Some.new.self in
    let w = c.in-Some.ensures.mark in
    let l : length v.items ≡ m.calls = ap length c.truncate.ensures.items ∙ length-take-le m.calls t.calls.items w.0.0 in
    let k : length u.items ≡ m.paths = ap length c.truncate-in-Some.ensures.items ∙ length-take-le m.paths t.paths.items w.0.1.0 in
    record {
      marked = marked_longer (counts_of m) (record (counts_of (mark_of t)) { calls = length v.items; paths = length u.items }) (reverse t.marks.items)
          (omega (arith, l), (omega (arith, k), w.0.1.1)) w.1;
    }

pub returns-in-Some-clause-trace : goal.returns-in-Some-clause-trace
returns-in-Some-clause-trace c =
    let t = c.args.self.now in
    let m = c.in-Some.mark in
    ap₂ (λ xs ys. Some (record (trace_of t) { calls = xs; paths = ys; below = m.below })) c.truncate.ensures.items
    (ap paths_in c.truncate-in-Some.ensures.items ∙ paths_cut m.paths t.paths.items)
    ∙ ap (λ f. restore f (own_trace t)) c.in-Some.ensures.trace

pub returns-in-Some-clause-traces : goal.returns-in-Some-clause-traces
returns-in-Some-clause-traces c =
    let t = c.args.self.now in
    let m = c.in-Some.mark in
    ap₂ (λ xs ys. map (frame_trace (record (trace_of t) { calls = xs; paths = ys; below = m.below })) (reverse t.marks.items)) c.truncate.ensures.items
    (ap paths_in c.truncate-in-Some.ensures.items ∙ paths_cut m.paths t.paths.items)
    ∙ traces_alike (counts_of m) (record (trace_of t) { calls = _; paths = _; below = m.below }) (trace_of t) (reverse t.marks.items) c.in-Some.ensures.mark.1
    (cut_twice m.calls t.calls.items, (cut_twice m.paths (paths_in t.paths.items), (refl, refl)))

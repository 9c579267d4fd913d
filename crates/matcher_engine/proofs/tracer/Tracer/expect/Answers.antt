use Rattle.std.proofs.Common.{◌≤◌, ◌∙◌, ap, arith, length, map, refl, reverse}
use Rattle.std.proofs.lemmas.List.{length-map}
use Rattle.matcher_engine.specs.Marks.{counts_of}
use Rattle.matcher_engine.specs.Traces.{mark_of, paths_in, frame_trace, trace_of}
use Rattle.matcher_engine.proofs.Marking.{marked_longer, path_added, traces_alike}
use Rattle.matcher_engine.proofs.tracer.Tracer.expect.Goals as goal

pub invariant_of-self : goal.invariant_of-self
invariant_of-self c =
    let t = c.args.self.now in
    let v = c.push-2.new.self in
    let longer : length t.paths.items ≤ length v.items = omega (arith, c.push-2.ensures.lower_bound, t.paths.ok, v.ok) in
    let k = counts_of (mark_of t) in
    record { marked = marked_longer k (record k { paths = length v.items }) (reverse t.marks.items) (omega arith, (longer, (omega arith, omega arith))) t.marked }

pub returns-clause-traces : goal.returns-clause-traces
returns-clause-traces c =
    let t = c.args.self.now in
    let ps = paths_in t.paths.items in
    let n = length t.paths.items in
    let l : n ≤ length ps = omega (arith, length-map t.paths.items (λ v. v.items)) in
    ap (λ vs. map (frame_trace (record (trace_of t) { paths = paths_in vs })) (reverse t.marks.items)) c.in_ok-push-2.ensures.items
    ∙ traces_alike (counts_of (mark_of t)) (record (trace_of t) { paths = _ }) (trace_of t) (reverse t.marks.items) t.marked
    (refl, (path_added t.paths.items c.push.new.self n l, (refl, refl)))

use Rattle.std.proofs.Common.{◌≤◌, ◌∙◌, [], ◌∷◌, ap, arith, length, map, refl, reverse}
use Rattle.std.proofs.lemmas.List.{take-append-le}
use Rattle.matcher_code.specs.Steps.{open_call}
use Rattle.matcher_engine.specs.Marks.{counts_of}
use Rattle.matcher_engine.specs.Traces.{mark_of, frame_trace, trace_of}
use Rattle.matcher_engine.proofs.Marking.{marked_longer, traces_alike}
use Rattle.matcher_engine.proofs.tracer.Tracer.enter.Goals as goal

pub invariant_of-self : goal.invariant_of-self
invariant_of-self c =
    let t = c.args.self.now in
    let v = c.push.new.self in
    let longer : length t.calls.items ≤ length v.items = omega (arith, c.push.ensures.lower_bound, t.calls.ok, v.ok) in
    let k = counts_of (mark_of t) in
    record { marked = marked_longer k (record k { calls = length v.items }) (reverse t.marks.items) (longer, (omega arith, (omega arith, omega arith))) t.marked }

pub returns-in_ok-push-clause-traces : goal.returns-in_ok-push-clause-traces
returns-in_ok-push-clause-traces c =
    let t = c.args.self.now in
    let cs = t.calls.items in
    let l : length cs ≤ length cs = omega arith in
    ap (λ xs. map (frame_trace (record (trace_of t) { calls = xs })) (reverse t.marks.items)) c.in_ok-push.ensures.items
    ∙ traces_alike (counts_of (mark_of t)) (record (trace_of t) { calls = _ }) (trace_of t) (reverse t.marks.items) t.marked
    (take-append-le (length cs) cs (open_call c.args.rule c.args.at ∷ []) l, (refl, (refl, refl)))

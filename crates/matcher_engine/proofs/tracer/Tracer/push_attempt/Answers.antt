use Rattle.std.proofs.Common.{◌≤◌, ◌∙◌, [], ◌∷◌, ap, arith, length, map, refl, reverse}
use Rattle.std.proofs.lemmas.List.{take-append-le}
use Rattle.matcher_engine.specs.Marks.{counts_of}
use Rattle.matcher_engine.specs.Traces.{mark_of, frame_trace, trace_of}
use Rattle.matcher_engine.proofs.Marking.{marked_longer, traces_alike}
use Rattle.matcher_engine.proofs.tracer.Tracer.push_attempt.Goals as goal

pub invariant_of-self : goal.invariant_of-self
invariant_of-self c =
    let t = c.args.self.now in
    let k = counts_of (mark_of t) in
    record {
      marked = marked_longer k (record k { negatives = length c.push_rule.new.rules.items }) (reverse t.marks.items)
          (omega arith, (omega arith, (omega arith, c.push_rule.ensures.kept))) t.marked;
    }

pub invariant_of-self-else-self : goal.invariant_of-self-else-self
invariant_of-self-else-self c =
    let t = c.args.self.now in
    let k = counts_of (mark_of t) in
    record {
      marked = marked_longer k (record k { positives = length c.push_rule-else-self.new.rules.items }) (reverse t.marks.items)
          (omega arith, (omega arith, (c.push_rule-else-self.ensures.kept, omega arith))) t.marked;
    }

pub returns-in_ok-push_rule-clause-traces : goal.returns-in_ok-push_rule-clause-traces
returns-in_ok-push_rule-clause-traces c =
    let t = c.args.self.now in
    let ys = t.negatives.items in
    let l : length ys ≤ length ys = omega arith in
    ap (λ rules. map (frame_trace (record (trace_of t) { attempts = record (trace_of t).attempts { negatives = rules } })) (reverse t.marks.items)) c.in_ok-push_rule.ensures.rule
    ∙ traces_alike (counts_of (mark_of t)) (record (trace_of t) { attempts = record (trace_of t).attempts { negatives = _ } }) (trace_of t) (reverse t.marks.items) t.marked
    (refl, (refl, (refl, take-append-le (length ys) ys (c.args.rule ∷ []) l)))

pub returns-in_ok-push_rule-2-clause-traces : goal.returns-in_ok-push_rule-2-clause-traces
returns-in_ok-push_rule-2-clause-traces c =
    let t = c.args.self.now in
    let xs = t.positives.items in
    let l : length xs ≤ length xs = omega arith in
    ap (λ rules. map (frame_trace (record (trace_of t) { attempts = record (trace_of t).attempts { positives = rules } })) (reverse t.marks.items)) c.in_ok-push_rule-2.ensures.rule
    ∙ traces_alike (counts_of (mark_of t)) (record (trace_of t) { attempts = record (trace_of t).attempts { positives = _ } }) (trace_of t) (reverse t.marks.items) t.marked
    (refl, (refl, (take-append-le (length xs) xs (c.args.rule ∷ []) l, refl)))

use Rattle.std.proofs.Common.{◌∙◌, sym}
use Rattle.lint_warnings.proofs.Names.{nothing_stops, passed_over, stops_free, stops_needed}
use Rattle.lint_warnings.proofs.rules.first_judged.Goals as goal

pub loop-i-preserved : goal.loop-i-preserved
loop-i-preserved c = λ f.
    sym (passed_over f c.args.rules.now c.loop-i.i c.index-rules-i.result c.loop-i-test.true c.index-rules-i.is (sym c.needs_no_call.ensures ∙ c.if-not-needs_no_call.false)) ∙ c.loop-i.invariant f

pub returns-then-is_needed-clause-rest : goal.returns-then-is_needed-clause-rest
returns-then-is_needed-clause-rest c = λ f known.
    stops_needed f c.args.rules.now c.loop-i.i c.index-rules-i.result c.loop-i-test.true c.index-rules-i.is (sym c.needs_no_call.ensures ∙ c.if-not-needs_no_call.true)
    (sym (c.is_needed.ensures f known) ∙ c.if-is_needed.true) (c.loop-i.invariant f)

pub returns-else-is_needed-clause-rest : goal.returns-else-is_needed-clause-rest
returns-else-is_needed-clause-rest c = λ f known.
    stops_free f c.args.rules.now c.loop-i.i c.index-rules-i.result c.loop-i-test.true c.index-rules-i.is (sym c.needs_no_call.ensures ∙ c.if-not-needs_no_call.true)
    (sym (c.is_needed.ensures f known) ∙ c.if-is_needed.false) (c.loop-i.invariant f)

pub returns-clause-rest : goal.returns-clause-rest
returns-clause-rest c = λ f known. nothing_stops f c.args.rules.now c.loop-i.i c.loop-i-test.false (c.loop-i.invariant f)

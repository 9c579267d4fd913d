use Rattle.pest_run.proofs.Ended.{form_notes, form_prints, form_stops, form_tells, refusal_is_reason}
use Rattle.pest_run.proofs.run.run.Goals as goal

pub returns-in-Ok-clause-printed : goal.returns-in-Ok-clause-printed
returns-in-Ok-clause-printed g c =
    let o = c.form_outcome-outcome in
    let comes = o.ensures c.args.grammar.now c.in-Ok.ensures.rules in
    form_prints o.result c.args.name.now c.args.grammar.now c.args.request.rule.now c.args.text.now c.args.request.format c.args.request.form _ c.print_outcome.result.write_result _ c.print_outcome.result.status _ _ _ _ comes c.print_outcome.ensures.ends

pub returns-in-Ok-clause-noted : goal.returns-in-Ok-clause-noted
returns-in-Ok-clause-noted g c =
    let o = c.form_outcome-outcome in
    let comes = o.ensures c.args.grammar.now c.in-Ok.ensures.rules in
    form_notes o.result c.args.name.now c.args.grammar.now c.args.request.rule.now c.args.text.now c.args.request.format c.args.request.form _ c.print_outcome.result.write_result _ c.print_outcome.result.status _ _ _ _ comes c.print_outcome.ensures.ends

pub returns-in-Ok-clause-reason : goal.returns-in-Ok-clause-reason
returns-in-Ok-clause-reason g c =
    let o = c.form_outcome-outcome in
    let comes = o.ensures c.args.grammar.now c.in-Ok.ensures.rules in
    form_tells o.result c.args.name.now c.args.grammar.now c.args.request.rule.now c.args.text.now c.args.request.format c.args.request.form _ c.print_outcome.result.write_result _ c.print_outcome.result.status _ _ _ _ comes c.print_outcome.ensures.ends

pub returns-in-Ok-clause-stopped : goal.returns-in-Ok-clause-stopped
returns-in-Ok-clause-stopped g c =
    let o = c.form_outcome-outcome in
    let comes = o.ensures c.args.grammar.now c.in-Ok.ensures.rules in
    form_stops o.result c.args.name.now c.args.grammar.now c.args.request.rule.now c.args.text.now c.args.request.format c.args.request.form _ c.print_outcome.result.write_result _ c.print_outcome.result.status _ _ _ _ comes c.print_outcome.ensures.ends

pub returns-in-Err-clause-reason : goal.returns-in-Err-clause-reason
returns-in-Err-clause-reason g c = λ one.
    refusal_is_reason c.args.request.form c.args.grammar.now c.args.request.rule.now c.args.name.now c.args.text.now _ c.refuse_grammar.result.write_result _ _
    (c.refuse_grammar.ensures.reason one)

pub refuse_grammar-requires : goal.refuse_grammar-requires
refuse_grammar-requires g c = c.in-Err.ensures.refused

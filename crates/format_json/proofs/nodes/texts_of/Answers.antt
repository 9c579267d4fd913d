use Rattle.std.proofs.Common.{Some, ap, ◌∙◌}
use Rattle.std.proofs.lemmas.Result.{err_from_is_err_and}
use Rattle.serde_json.specs.View.{items_view, view}
use Rattle.format_json.proofs.NoArguments.{no_texts_in}
use Rattle.format_json.proofs.nodes.texts_of.Goals as goal

pub returns-in_err-text_of-clause-refused : goal.returns-in_err-text_of-clause-refused
returns-in_err-text_of-clause-refused c =
    let p = err_from_is_err_and c.from_residual.result c.from_residual.ensures.1 in
    let list = ap (λ vs. Some (items_view vs)) c.deref-value-items.ensures.value ∙ c.in-Some.ensures in
    rw (p.1, p.2, c.in_err-text_of.ensures.refused.0)
    (no_texts_in (view c.args.value.now) c.deref-value-items.result.now c.loop-value.value-index c.value-item.result list c.loop-value-test.true c.value-item.is c.in_err-text_of.ensures.refused.1)

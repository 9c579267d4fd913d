use Rattle.std.proofs.Common.{◌∙◌, ap, sym}
use Rattle.std.specs.Prelude.{flat_map}
use Rattle.std.proofs.lemmas.List.{take_all}
use Rattle.std.proofs.lemmas.List.Folds.{flat_map-map}
use Rattle.lint_warnings.specs.Groups.{pieces_of}
use Rattle.lint_warnings.proofs.Choosing.{flat_more}
use Rattle.lint_warnings.proofs.choices.unreachable_alternatives.Goals as goal

pub loop-choice-preserved : goal.loop-choice-preserved
loop-choice-preserved c =
    flat_more pieces_of c.deref-choice-items.result.now c.loop-choice.choice-index c.choice-item.result _ _ c.loop-choice-test.true c.choice-item.is
    c.in_ok-add_spans.ensures c.loop-choice.invariant

pub returns : goal.returns
returns c =
    c.loop-choice.invariant
    ∙ (ap (flat_map pieces_of) (take_all c.loop-choice.choice-index c.deref-choice-items.result.now c.loop-choice-test.false ∙ c.deref-choice-items.ensures.value)
    ∙ (sym (flat_map-map (λ spans. spans) pieces_of c.in_ok-choices.choices.items) ∙ ap (flat_map (λ spans. spans)) c.in_ok-choices.ensures))

use Rattle.std.proofs.Common.{take}
use Rattle.lint_findings.specs.declared.codes.Code.TheVariants as code
use Rattle.lint_findings.proofs.Telling.{all_told, choice_told, choices_told}
use Rattle.lint_findings.proofs.choices.diagnose_choices.Goals as goal

pub loop-choice-init : goal.loop-choice-init
loop-choice-init c = rw c.new-diagnostics.ensures.items tt

pub loop-choice-preserved : goal.loop-choice-preserved
loop-choice-preserved c =
    choice_told code.Unreachable c.deref-choice-items.result.now c.loop-choice.choice-index c.choice-item.result c.add_choice.new.diagnostics.items c.loop-choice-test.true c.choice-item.is
    (c.in_ok-add_choice.ensures (all_told code.Unreachable (take c.loop-choice.choice-index c.deref-choice-items.result.now)) c.loop-choice.invariant)

pub returns : goal.returns
returns c =
    choices_told code.Unreachable c.in_ok-choices.choices.items c.deref-choice-items.result.now _ c.loop-choice.choice-index c.loop-choice.diagnostics.items c.loop-choice-test.false c.deref-choice-items.ensures.value c.in_ok-choices.ensures c.loop-choice.invariant

use Rattle.std.proofs.Common.{string_bytes, subst, sym}
use Rattle.std.proofs.lemmas.List.{take_all}
use Rattle.program_support.proofs.Parts.{one_part_more}
use Rattle.program_support.specs.Messages.{ArePartsOf, ShowsNext}
use Rattle.program_support.proofs.messages.show_errors.Goals as goal

pub loop-error-preserved : goal.loop-error-preserved
loop-error-preserved c =
    one_part_more ShowsNext c.args.errors.now c.loop-error.error-index c.error-item.result _ _ _ c.loop-error-test.true c.error-item.is c.loop-error.invariant
    (subst (ShowsNext c.error-item.result) (sym c.as_str.ensures.value) c.in_ok-part.ensures)
    c.in_ok-push_str.ensures.bytes

pub returns : goal.returns
returns c =
    subst (λ errors. ArePartsOf ShowsNext errors (string_bytes c.loop-error.parts))
    (take_all c.loop-error.error-index c.args.errors.now c.loop-error-test.false) c.loop-error.invariant

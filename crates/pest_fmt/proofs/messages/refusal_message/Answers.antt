use Rattle.std.proofs.Common.{◌∙◌, ap, string_bytes, subst, sym}
use Rattle.std.proofs.lemmas.List.{take_all}
use Rattle.std.proofs.lemmas.Result.{IfOk-weaker}
use Rattle.program_support.proofs.Parts.{one_part_more}
use Rattle.program_support.specs.Escapes.{escaped_bytes, escaped_lines}
use Rattle.program_support.specs.Messages.{ArePartsOf}
use Rattle.pest_fmt.specs.Messages.{TellsError}
use Rattle.pest_fmt.proofs.messages.refusal_message.Goals as goal

pub loop-error-preserved : goal.loop-error-preserved
loop-error-preserved c =
    let name = string_bytes c.in_ok-name.name in
    let error = c.error-item.result in
    let shown = c.as_str-in-loop-error in
    let told : TellsError name error shown.result.now =
    subst (λ t. TellsError name error t) (sym shown.ensures.value)
    (subst (λ n. TellsError n error (string_bytes c.in_ok-part.part)) c.as_str.ensures.value c.in_ok-part.ensures) in
    one_part_more (TellsError name) c.args.errors.now c.loop-error.error-index error _ _ _ c.loop-error-test.true
    c.error-item.is c.loop-error.invariant told c.in_ok-push_str.ensures.bytes

pub returns : goal.returns
returns c =
    let errors = c.args.errors.now in
    let text = string_bytes c.loop-error.message in
    let parts : ArePartsOf (TellsError (escaped_bytes c.args.name.now)) errors text =
    subst (λ n. ArePartsOf (TellsError n) errors text) c.in_ok-name.ensures
    (subst (λ es. ArePartsOf (TellsError (string_bytes c.in_ok-name.name)) es text)
    (take_all c.loop-error.error-index errors c.loop-error-test.false) c.loop-error.invariant) in
    IfOk-weaker c.escape_lines.result _ _ (λ message said. (text, parts, said ∙ ap escaped_lines c.as_str-2.ensures.value))
    c.escape_lines.ensures

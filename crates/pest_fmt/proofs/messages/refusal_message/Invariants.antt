use Rattle.std.proofs.Common.{string_bytes, take}
use Rattle.program_support.specs.Messages.{ArePartsOf}
use Rattle.pest_fmt.specs.Messages.{TellsError}
use Rattle.pest_fmt.proofs.messages.refusal_message.Given as goal

abbrev pub invariant-loop-error : goal.invariant-loop-error
invariant-loop-error l =
    ArePartsOf (TellsError (string_bytes l.name)) (take l.error-index l.errors) (string_bytes l.message)

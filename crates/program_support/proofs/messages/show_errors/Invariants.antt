use Rattle.std.proofs.Common.{string_bytes, take}
use Rattle.program_support.specs.Messages.{ArePartsOf, ShowsNext}
use Rattle.program_support.proofs.messages.show_errors.Given as goal

abbrev pub invariant-loop-error : goal.invariant-loop-error
invariant-loop-error l = ArePartsOf ShowsNext (take l.error-index l.errors) (string_bytes l.parts)

use Rattle.std.proofs.Common.{map, string_bytes}
use Rattle.pest_doc.specs.Refusals.{ShowsError}
use Rattle.program_support.specs.Messages.{ArePartsOf}
use Rattle.pest_doc.proofs.Showing.{pointed}
use Rattle.pest_doc.proofs.messages.show_errors.Given as goal

abbrev pub invariant-loop-error : goal.invariant-loop-error
invariant-loop-error l = ArePartsOf (ShowsError l.name) (map pointed l.yielded) (string_bytes l.text)

use Rattle.std.proofs.Common.{take}
use Rattle.base_language.specs.Pieces.Saying.{AreErrorsFor}
use Rattle.front_validator.specs.Reporting.{findings_of}
use Rattle.front_validator.proofs.reported.errors_of.Given as goal

abbrev pub invariant-loop-place : goal.invariant-loop-place
invariant-loop-place l = AreErrorsFor (findings_of (take l.place l.found)) l.errors.items

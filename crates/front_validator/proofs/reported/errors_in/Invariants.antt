use Rattle.std.proofs.Common.{◌≡◌, take}
use Rattle.base_language.specs.Pieces.Saying.{AreErrorsFor}
use Rattle.base_language.specs.Pieces.Survey.{survey_text}
use Rattle.front_validator.specs.Reporting.{findings_of}
use Rattle.front_validator.proofs.reported.errors_in.Given as goal

abbrev pub invariant-loop-place : goal.invariant-loop-place
invariant-loop-place l = record {
  told : AreErrorsFor (findings_of (take l.place l.found)) l.errors.items;
  text : survey_text l.survey ≡ l.text;
}

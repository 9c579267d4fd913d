use Rattle.std.proofs.Common.{◌≡◌, List, ◌++◌, map, drop}
use Rattle.base_language.specs.Pieces.Saying.{AreErrorsFor, piece_of}
use Rattle.base_language.specs.Pieces.Survey.{survey_text}
use Rattle.base_language.specs.declared.grammar.Rule.{Rule}
use Rattle.base_language.specs.declared.runtime.errors.Error.{Error}
use Rattle.front_names.specs.NameFindings.{told_by}
use Rattle.front_names.specs.Names.{AreIn}
use Rattle.front_names.proofs.said.name_errors.Given as goal

abbrev pub invariant-loop-finding : goal.invariant-loop-finding
invariant-loop-finding l = record {
  text : survey_text l.survey ≡ l.text;
  in_text : AreIn l.text (map (λ finding. piece_of finding.span) (drop l.finding-index l.findings));
  told : (more : List (Error Rule)) → AreErrorsFor (told_by (drop l.finding-index l.findings)) more
      → AreErrorsFor (told_by l.findings) (l.errors.items ++ more);
}

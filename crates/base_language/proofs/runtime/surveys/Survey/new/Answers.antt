use Rattle.base_language.proofs.Surveys.{start_is_landmark}
use Rattle.base_language.proofs.runtime.surveys.Survey.new.Goals as goal

pub invariant_of-result : goal.invariant_of-result
invariant_of-result c = record {
  begins = start_is_landmark c.args.text.now c.utf8.text;
  marked = c.in_ok-landmarks.ensures;
  known_right = λ x is. absurd (cc);
}

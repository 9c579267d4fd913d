use Rattle.pest_meta.proofs.OneReading.{predicate_before_question_mark}
use Rattle.pest_meta.proofs.laws.predicate_before_question_mark.Goals as goal

pub returns : goal.returns
returns c = predicate_before_question_mark

use Rattle.matcher_code.proofs.Characters.{span_of_set}
use Rattle.matcher_code.proofs.laws.repetition_matches_span.Goals as goal

pub returns : goal.returns
returns c = λ g classes m e f tight one. span_of_set g classes m e f tight one

use Rattle.pest_meta.proofs.Accepted.{accepted_have_answers}
use Rattle.pest_meta.proofs.Optimizes.{optimizes}
use Rattle.pest_meta.proofs.laws.accepted_rules_have_an_answer.Goals as goal

pub returns-clause-optimized : goal.returns-clause-optimized
returns-clause-optimized c = optimizes

pub returns-clause-answered : goal.returns-clause-answered
returns-clause-answered c = accepted_have_answers

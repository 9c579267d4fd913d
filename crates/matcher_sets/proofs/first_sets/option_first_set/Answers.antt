use Rattle.std.proofs.Common.{refl}
use Rattle.matcher_sets.proofs.Heading.{negation_first_set, option_first_set, repetition_first_set}
use Rattle.matcher_sets.proofs.first_sets.option_first_set.Goals as goal

pub returns-clause-option : goal.returns-clause-option
returns-clause-option c = λ p m e x. option_first_set p m e e c.args.body _ refl refl refl x

pub returns-clause-repetition : goal.returns-clause-repetition
returns-clause-repetition c = λ q p m e x. repetition_first_set p m e e c.args.body _ refl refl refl q x

pub returns-clause-lookahead : goal.returns-clause-lookahead
returns-clause-lookahead c = λ q p m e x. negation_first_set p m e e c.args.body _ refl refl refl q x

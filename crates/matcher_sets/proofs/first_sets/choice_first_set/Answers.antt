use Rattle.std.proofs.Common.{subst}
use Rattle.std.specs.Prelude.{IfSome}
use Rattle.matcher_sets.specs.FirstSets.{HasFirstSet}
use Rattle.matcher_sets.proofs.Heading.{either_first_set, if_made, left_first_set}
use Rattle.matcher_sets.proofs.first_sets.choice_first_set.Goals as goal

pub returns-then-first : goal.returns-then-first
returns-then-first c = λ p m a b x y. left_first_set p m a b c.args.first c.if-first.true x

pub returns-in-Some : goal.returns-in-Some
returns-in-Some c =
    if_made c.join.result
    (λ first_set j p m a b x y. either_first_set p m a b c.args.first c.in-Some.other first_set c.if-first.false j x (subst (λ s. IfSome s (HasFirstSet p m b)) c.in-Some.is y)) c.join.ensures

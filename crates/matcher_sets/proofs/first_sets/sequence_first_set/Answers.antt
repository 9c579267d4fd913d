use Rattle.std.proofs.Common.{subst}
use Rattle.std.specs.Prelude.{IfSome}
use Rattle.matcher_sets.specs.FirstSets.{HasFirstSet}
use Rattle.matcher_sets.proofs.Heading.{both_first_set, if_made}
use Rattle.matcher_sets.proofs.first_sets.sequence_first_set.Goals as goal

pub returns-in-Some : goal.returns-in-Some
returns-in-Some c =
    if_made c.join.result
    (λ first_set j p m a b x y. both_first_set p m a b c.args.first c.in-Some.other first_set j x (subst (λ s. IfSome s (HasFirstSet p m b)) c.in-Some.is y)) c.join.ensures

use Rattle.std.proofs.Common.{ap, chars}
use Rattle.matcher_program.proofs.Refusing.{found_there, last_there, others_there}
use Rattle.matcher_program.proofs.properties.add_property.Goals as goal

pub returns-then-is_some-clause-known : goal.returns-then-is_some-clause-known
returns-then-is_some-clause-known g c = λ known.
    let there = found_there c.deref.result.now (chars c.args.name.now) c.find_property.result _ c.is_some.ensures c.if-is_some.true c.find_property.ensures.some in
    rw c.deref.ensures.value at there

pub returns-in_ok-push-in-Some-clause-known : goal.returns-in_ok-push-in-Some-clause-known
returns-in_ok-push-in-Some-clause-known g c = λ known.
    last_there _ _ _ _ c.in_ok-push-in-Some.ensures.items (ap chars c.in_ok-name-in-Some.ensures.ok)

pub returns-in_ok-push-in-Some-clause-others : goal.returns-in_ok-push-in-Some-clause-others
returns-in_ok-push-in-Some-clause-others g c = λ n h. others_there _ _ _ n c.in_ok-push-in-Some.ensures.items h

use Rattle.std.proofs.Common.{◌∙◌}
use Rattle.matcher_compiler.specs.Sets.{IsKnownIn}
use Rattle.matcher_compiler.proofs.Growing.{later_same}
use Rattle.matcher_compiler.proofs.plan.Plan.set.Goals as goal

pub returns-in-Some-clause-later : goal.returns-in-Some-clause-later
returns-in-Some-clause-later c = λ p. later_same p c.args.self.now

pub returns-in-Some-clause-means : goal.returns-in-Some-clause-means
returns-in-Some-clause-means c = λ p code laid m b bs h u.
    let x : IsKnownIn c.args.self.now.sets c.in-Some.number c.args.ranges.items = rw c.in-Some.is at c.find_set.ensures in
    m.sets c.in-Some.number b bs x.within h ∙ x.is b bs h u

use Rattle.std.proofs.Common.{subst, sym}
use Rattle.matcher_compiler.specs.Sets.{AreKnownIn}
use Rattle.matcher_compiler.proofs.plan.Plan.find_set.Goals as goal

pub returns-in-Some : goal.returns-in-Some
returns-in-Some c =
    let sets = c.args.self.now.sets in
    (rw c.in-Some.is at c.known_set.ensures) sets (subst (AreKnownIn sets) (sym c.as_slice.ensures.value) c.args.self.now.are_known)

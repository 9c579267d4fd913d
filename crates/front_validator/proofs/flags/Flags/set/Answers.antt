use Rattle.std.proofs.Common.{slice_set, true, sym, subst}
use Rattle.front_validator.specs.Flags.{AreOnlySet}
use Rattle.front_validator.proofs.FlagLemmas.{noted_set}
use Rattle.front_validator.proofs.flags.Flags.set.Goals as goal

pub invariant_of-self-2 : goal.invariant_of-self-2
invariant_of-self-2 c =
    let old = c.args.self.now in
    record { known = subst (λ z. AreOnlySet z (slice_set old.all.items c.args.place true)) (sym c.in_ok-push.ensures.items) (noted_set old.members.items c.args.place old.all.items old.known) }

use Rattle.std.proofs.Common.{reverse}
use Rattle.matcher_machine.specs.declared.stack.StackText.TheVariants as held
use Rattle.matcher_machine.proofs.Stacking.{follows_push, held_longer}
use Rattle.matcher_machine.proofs.machine.Machine.push_text.Goals as goal

pub invariant_of-self : goal.invariant_of-self
invariant_of-self c =
    let m = c.args.self.now in
    record { held = held_longer _ _ (reverse m.frames.items) c.push.ensures.grows m.held; named = m.named; few = m.few }

pub returns : goal.returns
returns c code text pc =
    let m = c.args.self.now in
    follows_push code text m c.push.new.self (held.Program c.args.number) c.args.next c.args.at c.in_ok-push.ensures.pushed

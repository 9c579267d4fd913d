use Rattle.std.proofs.Common.{reverse}
use Rattle.matcher_machine.proofs.Stacking.{IsPopped, follows_span, held_longer}
use Rattle.matcher_machine.proofs.machine.Machine.push_input.Goals as goal

pub invariant_of-self : goal.invariant_of-self
invariant_of-self c =
    let m = c.pop.new.self in
    record { held = held_longer _ _ (reverse m.frames.items) c.push.ensures.grows m.held; named = m.named; few = m.few }

pub returns-in_ok-push-in-Some : goal.returns-in_ok-push-in-Some
returns-in_ok-push-in-Some c code text pc =
    let p = c.in-Some.ensures in
    let e : IsPopped c.args.self.now c.pop.new.self c.in-Some.frame = record {
      frames = p.frames;
      trees = p.trees;
      stack = p.stack;
      furthest = p.furthest;
      asked = p.asked;
      names = p.names;
    } in
    follows_span code text c.args.self.now c.pop.new.self c.push.new.self c.in-Some.frame c.args.next c.args.at pc e c.in_ok-push-in-Some.ensures.pushed

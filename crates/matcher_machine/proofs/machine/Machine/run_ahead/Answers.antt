use Rattle.std.proofs.Common.{◌∙◌, None, ap, map, refl, reverse, take}
use Rattle.matcher_code.specs.Steps.{Config, one_place}
use Rattle.matcher_machine.specs.Machines.{frame_of}
use Rattle.matcher_machine.specs.Stacks.{texts_at}
use Rattle.matcher_machine.specs.declared.stack.TextStack.{TextStack}
use Rattle.matcher_machine.proofs.Following.{follows_lookahead}
use Rattle.matcher_machine.proofs.Stacking.{IsPopped}
use Rattle.matcher_machine.proofs.machine.Machine.run_ahead.Goals as goal

pub returns-in-Some : goal.returns-in-Some
returns-in-Some c code text pc =
    let s = c.in-Some.frame in
    let p = c.in-Some.ensures in
    let r = c.forget.ensures in
    let m = c.pop.new.self in
    let new = c.forget.new.self in
    let e : IsPopped c.args.self.now m s = record {
      frames = p.frames;
      trees = p.trees;
      stack = p.stack;
      furthest = p.furthest;
      asked = p.asked;
      names = p.names;
    } in
    let d : Config = record {
      pc = c.args.next;
      at = s.at;
      frames = map (frame_of code text new.stack new.names.items) (reverse new.frames.items);
      trees = c.truncate.new.self.items;
      stack = texts_at code text new.stack s.top;
      furthest = new.furthest;
      asked = one_place new.asked;
      names = new.names.items;
      trace = None;
    } in
    follows_lookahead code text c.args.self.now m s pc c.args.at d e p.named.1 p.named.0 refl
    (ap (λ v. map (frame_of code text new.stack new.names.items) (reverse v.items)) r.frames
    ∙ ap (λ (x : TextStack). map (frame_of code text x new.names.items) (reverse m.frames.items)) r.stack)
    (c.truncate.ensures.items ∙ ap (λ v. take s.trees v.items) r.trees) (ap (λ (x : TextStack). texts_at code text x s.top) r.stack) (ap one_place r.asked) refl
    c.args.next refl r.furthest (r.expected code text)

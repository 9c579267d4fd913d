use Rattle.std.proofs.Common.{refl}
use Rattle.front_stack_loops.proofs.copies.wait_for_copy.Goals as goal

pub returns : goal.returns
returns c = record {
  copies = record c.args.copies { trace = c.push.new.self };
  items = c.in_ok-push-2.ensures.items;
  same = refl;
  trace = c.in_ok-push.ensures.items;
  next = refl;
}

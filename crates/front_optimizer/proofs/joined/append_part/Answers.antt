use Rattle.front_optimizer.proofs.Concatenated.{in_order_last}
use Rattle.front_optimizer.proofs.joined.append_part.Goals as goal

pub returns : goal.returns
returns c = rw c.in_ok-push_back.ensures.items (in_order_last c.args.parts.items c.args.last)

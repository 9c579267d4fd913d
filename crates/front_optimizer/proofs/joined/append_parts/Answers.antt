use Rattle.front_optimizer.proofs.Concatenated.{in_order_both}
use Rattle.front_optimizer.proofs.joined.append_parts.Goals as goal

pub returns : goal.returns
returns c = rw c.in_ok-append.ensures.items (in_order_both c.args.first.items c.args.last.items)

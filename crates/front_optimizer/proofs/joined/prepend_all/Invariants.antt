use Rattle.std.proofs.Common.{◌≡◌, ◌++◌, length}
use Rattle.front_optimizer.specs.Joined.{in_order}
use Rattle.front_optimizer.proofs.joined.prepend_all.Given as goal

abbrev pub invariant-parts : goal.invariant-parts
invariant-parts l = in_order l.others.items ++ in_order l.all.items ≡ in_order l.fn.first.items ++ in_order l.fn.last.items

abbrev pub decreases-parts : goal.decreases-parts
decreases-parts l = length l.others.items

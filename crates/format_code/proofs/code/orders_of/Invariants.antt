use Rattle.std.proofs.Common.{◌≡◌, map, take}
use Rattle.format_code.specs.Codes.{order_of}
use Rattle.format_code.proofs.code.orders_of.Given as goal

-- the bytes so far
abbrev pub invariant-loop-list : goal.invariant-loop-list
invariant-loop-list l = l.orders.items ≡ map order_of (take l.list-index l.lists)

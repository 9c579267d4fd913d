use Rattle.std.proofs.Common.{◌≡◌, ◌++◌, flat_map, take}
use Rattle.format_code.proofs.lists.append.Given as goal

-- the lists so far
abbrev pub invariant-loop-list : goal.invariant-loop-list
invariant-loop-list g l = l.items.items ≡ l.fn.items.items ++ flat_map (λ x. x.now) (take l.list-index l.lists)

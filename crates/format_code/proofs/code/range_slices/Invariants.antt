use Rattle.std.proofs.Common.{◌≡◌, map, take}
use Rattle.format_code.proofs.code.range_slices.Given as goal

-- the slices so far
abbrev pub invariant-loop-list : goal.invariant-loop-list
invariant-loop-list l = map (λ s. s.now) l.slices.items ≡ map (λ r. r.ranges.items) (take l.list-index l.lists)

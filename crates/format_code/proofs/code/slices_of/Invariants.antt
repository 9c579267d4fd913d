use Rattle.std.proofs.Common.{◌≡◌, map, take}
use Rattle.format_code.proofs.code.slices_of.Given as goal

-- the slices so far
abbrev pub invariant-loop-list : goal.invariant-loop-list
invariant-loop-list g l = map (λ s. s.now) l.slices.items ≡ map (λ x. x.items) (take l.list-index l.lists)

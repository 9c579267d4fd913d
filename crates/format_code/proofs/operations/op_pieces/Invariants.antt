use Rattle.std.proofs.Common.{◌≡◌, ◌*◌, flat_map, length, take}
use Rattle.matcher_code.specs.Operations.{ops_in}
use Rattle.format_code.proofs.operations.op_pieces.Given as goal

-- the operations so far
abbrev pub invariant-loop-op : goal.invariant-loop-op
invariant-loop-op l = (ops_in (flat_map (λ x. x) (flat_map (λ x. x) l.pieces.items)) ≡ take l.op-index l.ops)
    × (length (flat_map (λ x. x) (flat_map (λ x. x) l.pieces.items)) ≡ l.op-index * 20)

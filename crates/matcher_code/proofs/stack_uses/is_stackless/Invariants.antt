use Rattle.std.proofs.Common.{◌≡◌, false, map, take}
use Rattle.std.specs.List.{list_any}
use Rattle.matcher_code.specs.Operations.{op_in}
use Rattle.matcher_code.specs.StackUses.{uses_stack}
use Rattle.matcher_code.proofs.stack_uses.is_stackless.Given as goal

abbrev pub invariant-loop-piece : goal.invariant-loop-piece
invariant-loop-piece l = list_any uses_stack (take l.piece-index (map op_in l.code.ops.now)) ≡ false

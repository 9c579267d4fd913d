use Rattle.std.proofs.Common.{◌≡◌, false, take}
use Rattle.std.specs.List.{list_any}
use Rattle.matcher_code.specs.StackUses as stack
use Rattle.matcher_compiler.proofs.extent.is_stackless.Given as goal

abbrev pub invariant-loop-op : goal.invariant-loop-op
invariant-loop-op l = list_any stack.uses_stack (take l.op-index l.code.ops.items) ≡ false

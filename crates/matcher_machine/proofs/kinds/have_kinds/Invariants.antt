use Rattle.std.proofs.Common.{ℕ, ◌<◌, []}
use Rattle.matcher_code.specs.Bytecodes.{lists_in}
use Rattle.matcher_code.specs.Steps.{op_at}
use Rattle.matcher_machine.specs.Kinds.{IsFramedOp, kind_at}
use Rattle.matcher_machine.proofs.kinds.have_kinds.Given as goal

abbrev pub invariant-loop-label : goal.invariant-loop-label
invariant-loop-label l = (k : ℕ) → k < l.label → IsFramedOp (lists_in l.code) l.kinds (op_at (lists_in l.code) [] k) (kind_at (lists_in l.code) l.kinds k)

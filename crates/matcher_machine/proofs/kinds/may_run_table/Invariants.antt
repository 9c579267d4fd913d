use Rattle.std.proofs.Common.{ℕ, ◌+◌, ◌<◌, get_or}
use Rattle.matcher_code.specs.Bytecodes.{lists_in}
use Rattle.matcher_machine.specs.Kinds.{MayRun}
use Rattle.matcher_machine.proofs.kinds.may_run_table.Given as goal

abbrev pub invariant-loop-number : goal.invariant-loop-number
invariant-loop-number l = (i : ℕ) → i < l.number → MayRun (lists_in l.code) l.kinds l.kind (get_or (lists_in l.code).tables (l.table + i) 0)

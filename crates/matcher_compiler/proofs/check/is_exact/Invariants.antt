use Rattle.std.proofs.Common.{◌≡◌, false, take}
use Rattle.std.specs.List.{list_any}
use Rattle.matcher_compiler.specs.Exact.{is_note}
use Rattle.matcher_compiler.proofs.check.is_exact.Given as goal

abbrev pub invariant-loop-op : goal.invariant-loop-op
invariant-loop-op l = list_any is_note (take l.op-index l.code.ops.items) ≡ false

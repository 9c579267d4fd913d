use Rattle.std.proofs.Common.{take}
use Rattle.std.specs.List.{filter}
use Rattle.base_graphs.specs.Least.{is_set_at}
use Rattle.front_stack_loops.specs.Memory.{Meaning, IsRight}
use Rattle.front_stack_loops.specs.Table.{IsMeaning}
use Rattle.front_stack_loops.specs.Visiting.{FindsAll}
use Rattle.front_stack_loops.proofs.repetitions.visit_all.Given as goal

abbrev pub invariant-loop-rule : goal.invariant-loop-rule
invariant-loop-rule l = record {
  right : (meaning : Meaning) → IsMeaning l.table meaning → IsRight meaning l.memory;
  found : FindsAll l.table (filter (is_set_at l.reportable) (take l.rule l.table.roots.items)) l.found.items;
}

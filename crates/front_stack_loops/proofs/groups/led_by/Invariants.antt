use Rattle.front_stack_loops.specs.Leading.{AreLed}
use Rattle.front_stack_loops.proofs.groups.led_by.Given as goal

abbrev pub invariant-loop-step : goal.invariant-loop-step
invariant-loop-step l = AreLed l.nodes l.roots l.ways.down l.ways.leaders.now l.flags.items

use Rattle.std.proofs.Common.{◌≡◌, drop}
use Rattle.front_stack_domain.specs.Stack.{is_among}
use Rattle.front_stack_loops.specs.Following.{seen_stacks}
use Rattle.front_stack_domain.specs.Views.{stack_of}
use Rattle.front_stack_loops.proofs.copies.is_among.Given as goal

abbrev pub invariant-loop-seen : goal.invariant-loop-seen
invariant-loop-seen l = is_among (seen_stacks l.stacks) (stack_of l.stack) ≡ is_among (seen_stacks (drop l.seen-index l.stacks)) (stack_of l.stack)

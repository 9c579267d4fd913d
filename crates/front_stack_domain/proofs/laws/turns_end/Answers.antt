use Rattle.front_stack_domain.proofs.laws.turns_end.Goals as goal
use Rattle.front_stack_domain.proofs.Counting.{stacks_are_few}
use Rattle.front_stack_domain.proofs.Turning.{turns_end, one_end}

pub returns : goal.returns
returns c = record {
  few = stacks_are_few;
  unlimited = λ limit step a w n keeps h. turns_end limit step keeps a w h n;
  unique = λ step a w v u ss ts d e. one_end step d e;
}

use Rattle.front_stack_domain.proofs.laws.certain_never_ends.Goals as goal
use Rattle.front_stack_domain.proofs.Reaching.{reached_never, never_ends}

pub returns : goal.returns
returns c = record {
  parts = λ g classes m e p r s t l x n. reached_never g classes m l x n;
  rules = never_ends;
}

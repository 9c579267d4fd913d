use Rattle.front_stack_domain.proofs.laws.others_are_not_certain.Goals as goal
use Rattle.front_stack_domain.proofs.Refuting.{may_end, ends_on_route, repeats_nothing}

pub returns : goal.returns
returns c = record { ends = may_end; reached = ends_on_route; once = repeats_nothing }

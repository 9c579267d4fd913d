use Rattle.front_stack_domain.proofs.laws.depths_agree.Goals as goal
use Rattle.front_stack_domain.proofs.Fuel.{depths_agree, reports_agree}

pub returns : goal.returns
returns c = record {
  readings = λ limit depth recursive g e a leaves_out h. depths_agree recursive g leaves_out limit depth e a h;
  reports = λ limit depth other turns recursive g nullable x ts leaves_out h i. reports_agree recursive g leaves_out limit depth other turns h i nullable x ts;
}

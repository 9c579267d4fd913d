use Rattle.front_stack_domain.proofs.laws.limits_agree.Goals as goal
use Rattle.front_stack_domain.specs.Reading.{reading, name_reading}
use Rattle.front_stack_domain.proofs.FewMarks.{keeps_few, reading_few}
use Rattle.front_stack_domain.proofs.AnyLimit.{reading_same, reported_same}

pub returns : goal.returns
returns c = record {
  few = λ limit depth skips recursive g e. keeps_few (reading limit skips (name_reading limit skips recursive g depth) e) (reading_few limit skips recursive g depth e);
  readings = λ limit other recursive g e a p q h. reading_same limit other p q recursive g e a h;
  reports = λ limit other turns recursive g nullable x ts p q h. reported_same limit other p q turns recursive g nullable x ts h;
}

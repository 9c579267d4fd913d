use Rattle.front_validator.proofs.Falling.{no_cycle}
use Rattle.front_validator.proofs.cycles.has_no_cycle.Goals as goal

pub returns : goal.returns
returns c = λ h rs right. no_cycle rs c.args.facts.now c.as_slice.result.now right (c.all_fall-falls.ensures h)

use Rattle.std.proofs.Common.{◌∙◌}
use Rattle.front_validator.proofs.RecursionLemmas.{as_many}
use Rattle.front_validator.proofs.recursions.find_trail.Goals as goal

pub returns-clause-idle : goal.returns-clause-idle
returns-clause-idle c = record {
  alike = c.end.ensures.long ∙ (c.in_ok-found.ensures.long ∙ as_many c.args.guide.rules.now);
  entered = c.end.ensures.entered;
  trail = c.end.ensures.trail;
  tasks = c.end.ensures.tasks;
}

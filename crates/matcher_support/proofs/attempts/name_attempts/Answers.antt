use Rattle.std.proofs.Common.{◌∙◌}
use Rattle.matcher_support.proofs.attempts.name_attempts.Goals as goal

pub returns-clause-positives : goal.returns-clause-positives
returns-clause-positives c = λ g named ns e have. c.in_ok-positives.ensures g named ns (c.deref.ensures.value ∙ e) have

pub returns-clause-negatives : goal.returns-clause-negatives
returns-clause-negatives c = λ g named ns e have. c.in_ok-negatives.ensures g named ns (c.deref-2.ensures.value ∙ e) have

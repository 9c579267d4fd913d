use Rattle.std.proofs.Common.{refl}
use Rattle.front_reader.proofs.Chains.{with_bar, no_expression, without_bar}
use Rattle.front_reader.proofs.rules.reading.skip_bar.Goals as goal

pub returns-in_default : goal.returns-in_default
returns-in_default c = λ text h. absurd (no_expression (rw c.in_default.ensures at h))

pub returns-in-choice_operator : goal.returns-in-choice_operator
returns-in-choice_operator c = λ text h. rw (c.in-Some.ensures, c.in-choice_operator.is) (with_bar (rw (c.in-Some.ensures, c.in-choice_operator.is) at h))

pub returns-in_default-rule : goal.returns-in_default-rule
returns-in_default-rule c = λ text h. rw c.in-Some.ensures (without_bar c.in-Some.tree.rule (rw c.in-Some.ensures at h) refl c.in_default-rule.not-choice_operator)

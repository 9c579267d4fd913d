use Rattle.std.proofs.Common.{refl}
use Rattle.front_reader.specs.Views.{at_end}
use Rattle.front_reader.proofs.Chains.{no_tilde, lone_tilde, tilde_term}
use Rattle.front_reader.proofs.rules.reading.next_term.Goals as goal

pub returns-in_default : goal.returns-in_default
returns-in_default c = λ text h. rw c.in_default.ensures at_end

pub returns-in_default-rule : goal.returns-in_default-rule
returns-in_default-rule c = λ text h. rw c.in-Some.ensures (no_tilde c.in-Some.tilde.rule (rw c.in-Some.ensures at h) refl c.in_default-rule.not-sequence_operator)

pub returns-in_default-first_tree : goal.returns-in_default-first_tree
returns-in_default-first_tree c = λ text h. absurd (lone_tilde (rw (c.in-Some.ensures, c.in-sequence_operator.is, c.in_default-first_tree.ensures) at h))

pub returns : goal.returns
returns c = λ text h. rw (c.in-Some.ensures, c.in-sequence_operator.is, c.in-Some-first_tree.ensures)
    (tilde_term (rw (c.in-Some.ensures, c.in-sequence_operator.is, c.in-Some-first_tree.ensures) at h))

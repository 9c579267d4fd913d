use Rattle.std.proofs.Common.{◌∙◌, sym}
use Rattle.std.proofs.lemmas.Bool.{ne_eqb}
use Rattle.front_stack_domain.proofs.MarkLemmas.{other_counts, other_lengths}
use Rattle.front_stack_domain.proofs.stack.Stack.has_same_marks.Goals as goal

pub returns-else-self-other : goal.returns-else-self-other
returns-else-self-other c = ne_eqb _ _ c.if-self-other.false ∙ sym (other_lengths _ _ (other_counts _ _ _ _ c.if-self-other.false))

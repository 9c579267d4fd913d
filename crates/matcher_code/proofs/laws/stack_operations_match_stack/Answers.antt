use Rattle.matcher_code.proofs.StackReads.{discard_performs, peek_all_performs, peek_performs, pop_all_performs, pop_performs, push_text_performs, slice_performs}
use Rattle.matcher_code.proofs.laws.stack_operations_match_stack.Goals as goal

pub returns-clause-push_text : goal.returns-clause-push_text
returns-clause-push_text c = λ code number fail. push_text_performs code number fail

pub returns-clause-peek : goal.returns-clause-peek
returns-clause-peek c = λ code number fail. peek_performs code number fail

pub returns-clause-pop : goal.returns-clause-pop
returns-clause-pop c = λ code number fail. pop_performs code number fail

pub returns-clause-discard : goal.returns-clause-discard
returns-clause-discard c = λ code number fail. discard_performs code number fail

pub returns-clause-peek_all : goal.returns-clause-peek_all
returns-clause-peek_all c = λ code number fail. peek_all_performs code number fail

pub returns-clause-pop_all : goal.returns-clause-pop_all
returns-clause-pop_all c = λ code number fail. pop_all_performs code number fail

pub returns-clause-slice : goal.returns-clause-slice
returns-clause-slice c = λ code number fail. slice_performs code number fail

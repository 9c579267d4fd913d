use Rattle.std.proofs.Common.{◌∙◌, ap, not}
use Rattle.front_stack_domain.specs.Marks.{marks_of, blank_marks}
use Rattle.front_stack_domain.specs.Views.{base_of}
use Rattle.front_stack_domain.proofs.MarkLemmas.{blank_same}
use Rattle.front_stack_domain.proofs.stack.Stack.is_blank.Goals as goal

pub returns : goal.returns
returns c = c.are_blank.ensures ∙ (ap (λ b. blank_marks (marks_of c.args.self.count c.args.self.marks) (not b)) c.is_any.ensures ∙ blank_same (marks_of c.args.self.count c.args.self.marks) (base_of c.args.self.base))

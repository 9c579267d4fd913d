use Rattle.std.proofs.Common.{arith}
use Rattle.front_stack_domain.specs.Marks.{marks_of}
use Rattle.front_stack_domain.proofs.MarkLemmas.{length-marks_of, pushed_few}
use Rattle.front_stack_domain.proofs.stack.Stack.with_mark.Goals as goal

pub returns : goal.returns
returns c = pushed_few _ c.args.self.intact c.args.blank c.args.self.count (marks_of c.args.self.count c.args.self.marks) _ (length-marks_of _ _) (omega arith) c.push_mark.ensures.marks

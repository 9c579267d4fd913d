use Rattle.std.proofs.Common.{◌∙◌}
use Rattle.front_stack_loops.proofs.Follow.{step_value}
use Rattle.front_stack_loops.proofs.reader.step.Goals as goal

pub returns : goal.returns
returns c = record {
  value = λ meaning h i. c.after_copy.ensures ∙ step_value c.args.table.now meaning c.args.body c.args.required c.args.walk c.in-Some.stack _ c.in-Some.is (c.in_ok-reading.ensures.value meaning h i);
  kept = c.in_ok-reading.ensures.kept;
}

use Rattle.matcher_sets.specs.Forms.{said}
use Rattle.matcher_compiler.proofs.plan.Plan.span_both.Goals as goal

pub span_sequence-requires-clause-takes : goal.span_sequence-requires-clause-takes
span_sequence-requires-clause-takes c = rw c.in-Some.is at c.in_ok-made.ensures

pub returns-in_ok-span_sequence-in-Some-clause-lays : goal.returns-in_ok-span_sequence-in-Some-clause-lays
returns-in_ok-span_sequence-in-Some-clause-lays c = c.in_ok-span_sequence-in-Some.ensures.lays (said c.args.program.now c.args.first.now) c.requires.span

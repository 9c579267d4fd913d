use Rattle.matcher_compiler.specs.Compiled.{HasEntries}
use Rattle.matcher_compiler.specs.Plans.{IsLater}
use Rattle.matcher_compiler.proofs.compile.plan_entries.Given as goal

abbrev pub invariant-loop-rule : goal.invariant-loop-rule
invariant-loop-rule l = record {
  later : IsLater l.program l.fn.plan l.plan;
  has : HasEntries l.program l.plan l.rule;
}

use Rattle.std.proofs.Common.{take}
use Rattle.std.specs.List.{All}
use Rattle.front_optimizer.proofs.Counted.{RuleIsReadable}
use Rattle.front_optimizer.proofs.counts.counts_are_readable.Given as goal

abbrev pub invariant-loop-rule : goal.invariant-loop-rule
invariant-loop-rule l = All RuleIsReadable (take l.rule-index l.rule-items)

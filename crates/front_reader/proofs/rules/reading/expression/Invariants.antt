use Rattle.std.proofs.Common.{◌+◌}
use Rattle.front_nodes.specs.Nodes.{named_trees_of}
use Rattle.front_reader.specs.Levels.{open_work, work_of}
use Rattle.front_reader.proofs.Levels.{IsOnTheWay}
use Rattle.front_reader.proofs.rules.reading.expression.Given as goal

abbrev pub invariant-terms : goal.invariant-terms
invariant-terms l = IsOnTheWay l.text l.levels.items l.next (named_trees_of l.fn.trees)

abbrev pub decreases-terms : goal.decreases-terms
decreases-terms l = work_of l.next + open_work l.levels.items

use Rattle.std.proofs.Common.{take}
use Rattle.pest_lint.specs.Sources.{AreOfNames}
use Rattle.pest_lint.proofs.sources.read_sources.Given as goal

abbrev pub invariant-loop-name : goal.invariant-loop-name
invariant-loop-name l = AreOfNames (take l.name-index l.names) l.sources.items

use Rattle.std.proofs.Common.{take}
use Rattle.pest_fmt.specs.Sources.{AreOfNames, Gain}
use Rattle.pest_fmt.proofs.sources.find_files.Given as goal

abbrev pub invariant-loop-name : goal.invariant-loop-name
invariant-loop-name l = Gain (AreOfNames (take l.name-index l.names)) l.fn.files.items l.files.items

use Rattle.std.proofs.Common.{All}
use Rattle.pest_lint.specs.Sources.{Gain, IsOfFolder}
use Rattle.pest_lint.proofs.sources.read_files.Given as goal

abbrev pub invariant-loop-name : goal.invariant-loop-name
invariant-loop-name l = Gain (All IsOfFolder) l.fn.sources.items l.sources.items

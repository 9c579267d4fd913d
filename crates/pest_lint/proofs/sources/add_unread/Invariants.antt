use Rattle.std.proofs.Common.{All}
use Rattle.pest_lint.specs.Sources.{Gain, IsOfFolder}
use Rattle.pest_lint.proofs.sources.add_unread.Given as goal

abbrev pub invariant-loop-folder : goal.invariant-loop-folder
invariant-loop-folder l = Gain (All IsOfFolder) l.fn.sources.items l.sources.items

use Rattle.std.proofs.Common.{◌+◌, ◌*◌}
use Rattle.front_restorer.proofs.restored.+restored.Given as goal

abbrev pub decreases-restore : goal.decreases-restore
decreases-restore l = 3 * l.levels

abbrev pub decreases-restore_wrapped : goal.decreases-restore_wrapped
decreases-restore_wrapped l = 3 * l.levels + 1

abbrev pub decreases-restore_one : goal.decreases-restore_one
decreases-restore_one l = 3 * l.levels + 2

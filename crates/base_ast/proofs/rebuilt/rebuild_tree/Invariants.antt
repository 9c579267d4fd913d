use Rattle.std.proofs.Common.{◌≡◌, ◌+◌}
use Rattle.base_ast.specs.Rebuilding.{filled, meaning_of, waiting, work_of}
use Rattle.base_ast.proofs.Rebuilding.{AllReady}
use Rattle.base_ast.proofs.rebuilt.rebuild_tree.Given as goal

abbrev pub invariant-steps : goal.invariant-steps
invariant-steps g l =
    (filled g.R.Rebuild.fills l.outside.items (meaning_of g.R.Rebuild.says g.R.Rebuild.made g.R.Rebuild.fills l.step) ≡ g.R.Rebuild.says l.fn.source)
    × AllReady g.R.Rebuild.is_right g.R.Rebuild.is_ready l.step l.outside.items

abbrev pub decreases-steps : goal.decreases-steps
decreases-steps g l = work_of g.R.Rebuild.size g.R.Rebuild.waits l.step + waiting g.R.Rebuild.waits l.outside.items

use Rattle.std.proofs.Common.{Ok}
use Rattle.base_language.specs.Language.Expression.{Expression}
use Rattle.base_ast.specs.Maps.{TopDown}
use Rattle.base_ast.specs.Frames.{EndsTopDown, work_left}
use Rattle.base_ast.proofs.walks.top_down.map_top_down.Given as goal

abbrev pub invariant-along : goal.invariant-along
invariant-along g l =
    goal.F-IsAlwaysCallable g l.f
    × ((w : Expression) (t : _) → EndsTopDown g.E.Tree.says g.E.Tree.stands_for (goal.F-step g) l.next l.frames.items (Ok l.f) w t
    → TopDown g.E.Tree.says (goal.F-step g) (Ok l.fn.f) (g.E.Tree.says l.fn.expr) w t)

abbrev pub decreases-along : goal.decreases-along
decreases-along g l = work_left g.E.Tree.says l.next l.frames.items

use Rattle.std.proofs.Common.{List, ◌++◌, length}
use Rattle.front_spanned.specs.Nodes.{view}
use Rattle.front_spanned.specs.Walk.{waiting, Answered, Appended}
use Rattle.front_spanned.proofs.Meeting.{Met}
use Rattle.front_spanned.proofs.filter.walk.Given as goal

abbrev pub invariant-loop-next : goal.invariant-loop-next
invariant-loop-next g l =
    goal.F-IsAlwaysCallable g l.f
    × ((last : _) (found : List _) → Answered (goal.F-step g) l.f (waiting l.stack.items) last found
    → Appended (goal.F-step g) l.fn.f (view l.fn.node) last l.fn.answers.items (l.answers.items ++ found))
    × Met (goal.F-step g) l.fn.f (view l.fn.node) l.f (waiting l.stack.items)

abbrev pub decreases-loop-next : goal.decreases-loop-next
decreases-loop-next g l = length (waiting l.stack.items)

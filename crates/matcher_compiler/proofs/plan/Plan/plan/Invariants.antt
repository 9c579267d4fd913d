use Rattle.std.proofs.Common.{◌<◌, ℕ, get_or, length}
use Rattle.matcher_compiler.specs.declared.points.Point.{Point}
use Rattle.matcher_compiler.specs.Plans.{AreBound, IsLater, IsReady, LaysPoint}
use Rattle.matcher_compiler.proofs.plan.Plan.plan.Given as goal

abbrev pub invariant-loop-number : goal.invariant-loop-number
invariant-loop-number l = record {
  later : IsLater l.program l.fn.self l.self;
  ready : IsReady l.program l.self;
  bound : AreBound l.program l.self;
  lays : (i : ℕ) (d : Point) → i < l.number → i < length l.self.points.items
      → LaysPoint l.program l.self (get_or l.self.points.items i d);
}

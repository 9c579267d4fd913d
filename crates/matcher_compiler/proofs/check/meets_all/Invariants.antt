use Rattle.std.proofs.Common.{ℕ, ◌<◌, get_or, map}
use Rattle.matcher_program.specs.declared.form.Program.{Program}
use Rattle.matcher_code.specs.Lists.{lists_of}
use Rattle.matcher_compiler.specs.declared.points.Demand.{Demand}
use Rattle.matcher_compiler.specs.Plans.{IsMet, laid_point}
use Rattle.matcher_compiler.proofs.check.meets_all.Given as goal

abbrev pub invariant-loop-demand : goal.invariant-loop-demand
invariant-loop-demand l = (p : Program) (i : ℕ) (d : Demand) → i < l.demand-index → IsMet p (lists_of l.code) (map (laid_point p) l.points) (get_or l.demands i d)

use Rattle.std.proofs.Common.{◌+◌}
use Rattle.base_ast.specs.Optimized.{optimized_expression_of, optimized_rules_of}
use Rattle.base_ast.specs.Rebuilding.{waiting}
use Rattle.matcher_program.specs.Forming.{effort, waits_of}
use Rattle.matcher_program.proofs.Forming.{AreWithin, IsUnderWay}
use Rattle.matcher_program.proofs.forms.form_of.Given as goal

abbrev pub invariant-steps : goal.invariant-steps
invariant-steps l =
    IsUnderWay (optimized_rules_of l.rules.rules.now) l.properties (optimized_expression_of l.expr) l.step l.outside.items
    × AreWithin (optimized_expression_of l.expr) l.step l.outside.items

abbrev pub decreases-steps : goal.decreases-steps
decreases-steps l = effort l.step + waiting waits_of l.outside.items

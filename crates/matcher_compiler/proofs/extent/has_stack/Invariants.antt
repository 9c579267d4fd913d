use Rattle.std.proofs.Common.{◌≡◌}
use Rattle.matcher_compiler.specs.Extents.{any_stack, has_stack, heft}
use Rattle.matcher_compiler.proofs.extent.has_stack.Given as goal

abbrev pub invariant-parts : goal.invariant-parts
invariant-parts l = any_stack l.waiting.items ≡ has_stack l.form

abbrev pub decreases-parts : goal.decreases-parts
decreases-parts l = heft l.waiting.items

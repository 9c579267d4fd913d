use Rattle.std.proofs.Common.{◌≤◌, ◌+◌}
use Rattle.matcher_compiler.specs.Extents.{count_all, count_forms, heft}
use Rattle.matcher_compiler.proofs.extent.count_forms.Given as goal

abbrev pub invariant-parts : goal.invariant-parts
invariant-parts l = l.count + count_all l.waiting.items ≤ count_forms l.form

abbrev pub decreases-parts : goal.decreases-parts
decreases-parts l = heft l.waiting.items

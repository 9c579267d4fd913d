use Rattle.std.proofs.Common.{◌≡◌, ◌++◌, map, chars}
use Rattle.base_ast.specs.Optimized.{optimized_expression_of}
use Rattle.matcher_program.specs.Forming.{calls_of, calls_waiting, heft}
use Rattle.matcher_program.proofs.properties.add_names.Given as goal

abbrev pub invariant-parts : goal.invariant-parts
invariant-parts l = map (λ name. chars name.now) l.names.items ++ calls_waiting l.waiting.items
    ≡ map (λ name. chars name.now) l.fn.names.items ++ calls_of (optimized_expression_of l.expr)

abbrev pub decreases-parts : goal.decreases-parts
decreases-parts l = heft l.waiting.items

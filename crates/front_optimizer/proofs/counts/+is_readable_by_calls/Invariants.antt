use Rattle.std.proofs.Common.{◌≤◌, ◌+◌, ◌*◌}
use Rattle.base_ast.specs.Ast.{expression_of}
use Rattle.front_optimizer.specs.Counts.{PartsAreReadable}
use Rattle.base_ast.specs.Operands.{count_of_nodes}
use Rattle.front_optimizer.proofs.counts.+is_readable_by_calls.Given as goal

abbrev pub invariant-is_readable_by_calls-along : goal.invariant-is_readable_by_calls-along
invariant-is_readable_by_calls-along l =
    (PartsAreReadable (expression_of l.rest) → PartsAreReadable (expression_of l.fn.expr))
    × (PartsAreReadable (expression_of l.fn.expr) → PartsAreReadable (expression_of l.rest))
    × (count_of_nodes (expression_of l.rest) ≤ count_of_nodes (expression_of l.fn.expr))

abbrev pub decreases-is_readable_by_calls-along : goal.decreases-is_readable_by_calls-along
decreases-is_readable_by_calls-along l = count_of_nodes (expression_of l.rest)

abbrev pub decreases-is_readable_by_calls : goal.decreases-is_readable_by_calls
decreases-is_readable_by_calls l = 2 * count_of_nodes (expression_of l.expr.now) + 1

abbrev pub decreases-is_single_readable : goal.decreases-is_single_readable
decreases-is_single_readable l = 2 * count_of_nodes (expression_of l.expr.now)

use Rattle.std.proofs.Common.{◌≡◌, length}
use Rattle.std.specs.List.{list_any}
use Rattle.base_ast.specs.Ast.{expression_of}
use Rattle.lint_patterns.specs.Rewritten.{has_turn, is_turn}
use Rattle.lint_patterns.specs.Stacks.{expressions_left}
use Rattle.lint_patterns.proofs.lists.has_turn.Given as goal

abbrev pub invariant-loop-next : goal.invariant-loop-next
invariant-loop-next l = list_any is_turn (expressions_left l.stack.items) ≡ has_turn (expression_of l.fn.body)

abbrev pub decreases-loop-next : goal.decreases-loop-next
decreases-loop-next l = length (expressions_left l.stack.items)

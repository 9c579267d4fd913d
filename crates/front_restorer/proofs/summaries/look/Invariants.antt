use Rattle.std.proofs.Common.{◌≡◌, ◌||◌, ◌++◌, ◌+◌}
use Rattle.base_ast.specs.Optimized.{optimized_expression_of}
use Rattle.front_restorer.specs.Calls.{names_in}
use Rattle.front_restorer.specs.Changing.{changes_by, is_changer}
use Rattle.front_restorer.specs.Summaries.{numbers_if_known}
use Rattle.front_restorer.specs.Size.{size}
use Rattle.front_restorer.specs.Turns.{changes_in_turn, names_in_turn, work_in_turn}
use Rattle.front_restorer.proofs.summaries.look.Given as goal

abbrev pub invariant-parts : goal.invariant-parts
invariant-parts l = record {
  changes : (l.is_changing || (changes_by is_changer (optimized_expression_of l.here) || changes_in_turn l.waiting.items)) ≡ changes_by is_changer (optimized_expression_of l.fn.expr);
  numbers : l.numbers.items ++ numbers_if_known l.names (names_in (optimized_expression_of l.here) ++ names_in_turn l.waiting.items)
      ≡ l.fn.numbers.items ++ numbers_if_known l.names (names_in (optimized_expression_of l.fn.expr));
}

abbrev pub decreases-parts : goal.decreases-parts
decreases-parts l = size (optimized_expression_of l.here) + work_in_turn l.waiting.items

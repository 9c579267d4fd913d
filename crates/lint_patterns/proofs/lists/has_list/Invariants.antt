use Rattle.std.proofs.Common.{◌≡◌, Bool, length}
use Rattle.std.specs.List.{list_any}
use Rattle.base_ast.specs.Ast.{expression_of}
use Rattle.base_language.specs.Language.Text.{Text}
use Rattle.lint_patterns.specs.Rewritten.{has_list, is_list}
use Rattle.lint_patterns.specs.Stacks.{expressions_left}
use Rattle.lint_warnings.specs.Lists.{HasNames}
use Rattle.lint_patterns.proofs.lists.has_list.Given as goal

abbrev pub invariant-loop-next : goal.invariant-loop-next
invariant-loop-next l = (f : Text → Bool) → HasNames f l.optional → list_any (is_list f) (expressions_left l.stack.items) ≡ has_list f (expression_of l.fn.body)

abbrev pub decreases-loop-next : goal.decreases-loop-next
decreases-loop-next l = length (expressions_left l.stack.items)

-- The values of the code's lists.
use Rattle.std.specs.Prelude.{List, [], ◌∷◌, ◌++◌}
use Rattle.std.specs.Borrow.{Bor}
use Rattle.base_ast.specs.Ast.{expression_of}
use Rattle.base_ast.specs.declared.ast.Expr.{Expr}
use Rattle.base_language.specs.Language.Expression.{Expression}
use Rattle.lint_patterns.specs.Rewritten.{parts}

-- the expressions on a stack, each with its parts, from its top to its bottom
abbrev pub expressions_left : List (Bor Expr) → List Expression
expressions_left [] = []
expressions_left (n ∷ ns) = expressions_left ns ++ parts (expression_of n.now)

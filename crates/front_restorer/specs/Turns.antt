-- Expressions in the worklist, the last of them first.
use Rattle.std.specs.Prelude.{ℕ, ◌+◌, List, [], ◌∷◌, ◌++◌, Bool, false, ◌||◌}
use Rattle.std.specs.Borrow.{Bor}
use Rattle.base_language.specs.Language.Text.{Text}
use Rattle.base_ast.specs.Optimized.{optimized_expression_of}
use Rattle.base_ast.specs.declared.optimized.OptimizedExpr.{OptimizedExpr}
use Rattle.front_restorer.specs.Calls.{names_in}
use Rattle.front_restorer.specs.Changing.{changes_by, is_changer}
use Rattle.front_restorer.specs.Size.{size}

-- the names that occur in them
abbrev pub names_in_turn : List (Bor OptimizedExpr) → List Text
names_in_turn [] = []
names_in_turn (x ∷ xs) = names_in_turn xs ++ names_in (optimized_expression_of x.now)

-- whether one of them changes the stack by itself
abbrev pub changes_in_turn : List (Bor OptimizedExpr) → Bool
changes_in_turn [] = false
changes_in_turn (x ∷ xs) = changes_in_turn xs || changes_by is_changer (optimized_expression_of x.now)

-- their size
abbrev pub work_in_turn : List (Bor OptimizedExpr) → ℕ
work_in_turn [] = 0
work_in_turn (x ∷ xs) = size (optimized_expression_of x.now) + work_in_turn xs

-- One more that waits for its turn, before all others.
use Rattle.std.proofs.Common.{◌≡◌, ◌+◌, ◌<◌, List, [], ◌∷◌, ◌++◌, ◌||◌, sym, ◌∙◌, ap, arith, append_assoc}
use Rattle.std.proofs.lemmas.List.{append-nil}
use Rattle.std.specs.Borrow.{Bor}
use Rattle.std.proofs.Math.Bool.{or_assoc, or-false}
use Rattle.base_language.specs.Language.Expression.{Expression, PosPred, NegPred, Seq, Choice, Opt, Rep, RepOnce, Push, RestoreOnErr, NodeTag}
use Rattle.base_ast.specs.Optimized.{optimized_expression_of}
use Rattle.base_ast.specs.declared.optimized.OptimizedExpr.{OptimizedExpr}
use Rattle.front_restorer.specs.Calls.{names_in}
use Rattle.front_restorer.specs.Changing.{changes_by, is_changer}
use Rattle.front_restorer.specs.Size.{size}
use Rattle.front_restorer.specs.Turns.{names_in_turn, changes_in_turn, work_in_turn}

pub names_in_turn_last : (xs : List (Bor OptimizedExpr)) (x : Bor OptimizedExpr)
    → names_in_turn (xs ++ x ∷ []) ≡ names_in (optimized_expression_of x.now) ++ names_in_turn xs
names_in_turn_last [] x = sym (append-nil (names_in (optimized_expression_of x.now)))
names_in_turn_last (y ∷ xs) x =
    ap (λ ns. ns ++ names_in (optimized_expression_of y.now)) (names_in_turn_last xs x)
    ∙ append_assoc (names_in (optimized_expression_of x.now)) (names_in_turn xs) (names_in (optimized_expression_of y.now))

pub changes_in_turn_last : (xs : List (Bor OptimizedExpr)) (x : Bor OptimizedExpr)
    → changes_in_turn (xs ++ x ∷ []) ≡ (changes_by is_changer (optimized_expression_of x.now) || changes_in_turn xs)
changes_in_turn_last [] x = sym (or-false (changes_by is_changer (optimized_expression_of x.now)))
changes_in_turn_last (y ∷ xs) x =
    ap (λ b. b || changes_by is_changer (optimized_expression_of y.now)) (changes_in_turn_last xs x)
    ∙ or_assoc (changes_by is_changer (optimized_expression_of x.now)) (changes_in_turn xs) (changes_by is_changer (optimized_expression_of y.now))

pub work_in_turn_last : (xs : List (Bor OptimizedExpr)) (x : Bor OptimizedExpr)
    → work_in_turn (xs ++ x ∷ []) ≡ work_in_turn xs + size (optimized_expression_of x.now)
work_in_turn_last [] x = omega arith
work_in_turn_last (y ∷ xs) x = let rest = work_in_turn_last xs x in omega arith

pub some_size : (e : Expression) → 0 < size e
some_size (PosPred e) = omega arith
some_size (NegPred e) = omega arith
some_size (Seq a b) = omega arith
some_size (Choice a b) = omega arith
some_size (Opt e) = omega arith
some_size (Rep e) = omega arith
some_size (RepOnce e) = omega arith
some_size (Push e) = omega arith
some_size (NodeTag e t) = omega arith
some_size (RestoreOnErr e) = omega arith
some_size _ = omega arith

-- what the walk needs to know of one more
pub ruleset one_more = (changes_in_turn_last, names_in_turn_last, work_in_turn_last, some_size)

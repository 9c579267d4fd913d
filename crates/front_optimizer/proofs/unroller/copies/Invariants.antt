use Rattle.std.proofs.Common.{◌≡◌, List, ◌∷◌, ◌++◌, replicate}
use Rattle.base_language.specs.Language.Expression.{Expression}
use Rattle.base_language.specs.Language.Meaning.{in_sequence}
use Rattle.base_ast.specs.Ast.{expression_of}
use Rattle.front_optimizer.proofs.unroller.copies.Given as goal

abbrev pub invariant-loop-turn : goal.invariant-loop-turn
invariant-loop-turn l = (f : Expression) (fs : List Expression) → expression_of l.fn.others.value ≡ in_sequence (f ∷ fs)
    → expression_of l.sequence.value ≡ in_sequence (replicate l.turn (expression_of l.expr) ++ (f ∷ fs))

-- Indices of the stack that fit 32 bits, as all do that a program holds.
use Rattle.std.specs.Prelude.{ℤ, Option, Some, None, FitsSigned, ⊤}
use Rattle.std.specs.Int.{w32}
use Rattle.base_ast.specs.declared.optimized.OptimizedExpr as optimized

abbrev pub FitsEnd : Option ℤ → Type 0
FitsEnd None = ⊤
FitsEnd (Some z) = FitsSigned w32 z

-- those of an expression
abbrev pub HasIndices : optimized.OptimizedExpr → Type 0
HasIndices (optimized.PeekSlice i j) = FitsSigned w32 i × FitsEnd j
HasIndices (optimized.PosPred' p x) = HasIndices x
HasIndices (optimized.NegPred' p x) = HasIndices x
HasIndices (optimized.Seq' p x q y) = HasIndices x × HasIndices y
HasIndices (optimized.Choice' p x q y) = HasIndices x × HasIndices y
HasIndices (optimized.Opt' p x) = HasIndices x
HasIndices (optimized.Rep' p x) = HasIndices x
HasIndices (optimized.RepOnce' p x) = HasIndices x
HasIndices (optimized.Push' p x) = HasIndices x
HasIndices (optimized.NodeTag' p x s) = HasIndices x
HasIndices (optimized.RestoreOnErr' p x) = HasIndices x
HasIndices _ = ⊤

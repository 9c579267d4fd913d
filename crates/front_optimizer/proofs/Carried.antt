-- What is known of a result, carried on.
use Rattle.std.proofs.Common.{Result, Ok, Err, IfOk}
use Rattle.std.specs.declared.alloc.AllocError.{AllocError}
use Rattle.base_ast.specs.declared.ast.Expr.{Expr}

pub carried : {P Q : Expr → Type 0} (r : Result Expr AllocError) → ((e : Expr) → P e → Q e) → IfOk r P → IfOk r Q
carried (Ok e) f p = f e p
carried (Err x) f p = p

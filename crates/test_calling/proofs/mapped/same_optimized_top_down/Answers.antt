use Rattle.std.proofs.Common.{rules}
use Rattle.base_ast.proofs.Unchanged.{unchanged_top_down}
use Rattle.test_calling.proofs.mapped.same_optimized_top_down.Goals as goal

pub returns : goal.returns
returns c = unchanged_top_down _ _ (λ f x y g k. search rules) _ _ _ c.map_top_down.ensures.mapped

use Rattle.std.proofs.Common.{rules}
use Rattle.base_ast.proofs.Unchanged.{unchanged_bottom_up}
use Rattle.test_calling.proofs.mapped.same_bottom_up.Goals as goal

pub returns : goal.returns
returns c = unchanged_bottom_up _ _ (λ f x y g k. search rules) _ _ _ c.map_bottom_up.ensures.mapped

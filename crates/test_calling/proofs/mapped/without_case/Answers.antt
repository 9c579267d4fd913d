use Rattle.std.proofs.Common.{rules}
use Rattle.test_calling.proofs.Caseless.{caseless_top_down}
use Rattle.test_calling.proofs.mapped.without_case.Goals as goal

pub returns : goal.returns
returns c = caseless_top_down _ (λ f x y g k. search rules) _ _ _ c.map_top_down.ensures.mapped

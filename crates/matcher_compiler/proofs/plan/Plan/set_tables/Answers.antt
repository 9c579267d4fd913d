use Rattle.std.proofs.Common.{[], refl, arith}
use Rattle.matcher_compiler.proofs.Growing.{grown, no_more, none}
use Rattle.matcher_compiler.proofs.plan.Plan.set_tables.Goals as goal

pub returns : goal.returns
returns c = λ p. grown p c.args.self.now _ [] [] (no_more c.args.self.now.points.items _ refl) (no_more c.args.self.now.demands.items _ refl) (omega arith) (λ set b bs h k. refl) (λ i h. (h, refl)) (λ i h. (h, refl)) refl (none p)

use Rattle.std.proofs.Common.{◌≡◌, ◌++◌, ◌∷◌, [], refl, arith, subst, length}
use Rattle.std.proofs.lemmas.Grind.{common_steps}
use Rattle.matcher_compiler.specs.Plans.{IsMet}
use Rattle.matcher_compiler.proofs.Growing.{grown, last_of, no_more, none}
use Rattle.matcher_compiler.proofs.plan.Plan.demand.Goals as goal

pub returns-clause-later : goal.returns-clause-later
returns-clause-later c = λ p.
    let e : c.push.new.self.items ≡ c.args.self.now.demands.items ++ c.args.demand ∷ [] = grind (arith, common_steps) in
    grown p c.args.self.now _ [] (c.args.demand ∷ []) (no_more c.args.self.now.points.items _ refl) e (omega arith) (λ set b bs h k. refl) (λ i h. (h, refl)) (λ i h. (h, refl)) refl (none p)

pub returns-clause-met : goal.returns-clause-met
returns-clause-met c = λ p code laid m.
    let e : c.push.new.self.items ≡ c.args.self.now.demands.items ++ c.args.demand ∷ [] = grind (arith, common_steps) in
    let x = last_of c.args.self.now.demands.items c.push.new.self.items c.args.demand c.args.demand e in
    subst (IsMet p code laid) x.1 (m.demands (length c.args.self.now.demands.items) c.args.demand x.0)

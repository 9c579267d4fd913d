use Rattle.std.proofs.Common.{◌≡◌, ◌++◌, ◌∷◌, ◌-◌, [], suc, refl, arith, subst, length}
use Rattle.std.proofs.lemmas.Grind.{common_steps}
use Rattle.matcher_compiler.specs.declared.points.Point.{Point}
use Rattle.matcher_compiler.specs.Plans.{IsPointOf}
use Rattle.matcher_compiler.proofs.Growing.{grown, last_of, no_more, part_below, single}
use Rattle.matcher_compiler.proofs.plan.Plan.point.Goals as goal

pub returns-clause-later : goal.returns-clause-later
returns-clause-later c = λ p bound.
    let x : Point = record { part = c.args.part; at = record c.args.at { rank = c.args.at.rank - 1 } } in
    let e : c.push.new.self.items ≡ c.args.self.now.points.items ++ x ∷ [] = grind (arith, common_steps) in
    grown p c.args.self.now _ (x ∷ []) [] e (no_more c.args.self.now.demands.items _ refl) (omega arith) (λ set b bs h k. refl) (λ i h. (h, refl)) (λ i h. (h, refl)) refl (single p x bound)

pub returns-clause-has : goal.returns-clause-has
returns-clause-has c = λ p code laid m.
    let x : Point = record { part = c.args.part; at = record c.args.at { rank = c.args.at.rank - 1 } } in
    let e : c.push.new.self.items ≡ c.args.self.now.points.items ++ x ∷ [] = grind (arith, common_steps) in
    let y = last_of c.args.self.now.points.items c.push.new.self.items x x e in
    let z : suc (c.args.at.rank - 1) ≡ c.args.at.rank = omega arith in
    part_below p laid x c.args.at.rank (subst (IsPointOf p laid) y.1 (m.points (length c.args.self.now.points.items) x y.0)) z

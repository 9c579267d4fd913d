use Rattle.std.proofs.Common.{◌≡◌, ◌∙◌, ◌++◌, ◌∷◌, [], refl, ap, arith, length, get_or, map, ◌<◌}
use Rattle.std.proofs.lemmas.Grind.{common_steps}
use Rattle.matcher_compiler.proofs.Growing.{grown, last_of, no_more, none, texts_front, texts_last}
use Rattle.matcher_compiler.proofs.plan.Plan.list.Goals as goal

pub returns-clause-later : goal.returns-clause-later
returns-clause-later c = λ p.
    let e : c.push.new.self.items ≡ c.args.self.now.lists.items ++ c.args.numbers ∷ [] = grind (arith, common_steps) in
    grown p c.args.self.now _ [] [] (no_more c.args.self.now.points.items _ refl) (no_more c.args.self.now.demands.items _ refl) (omega arith) (λ set b bs h k. refl) (λ i h. (h, refl))
    (texts_front (λ v. v.items) c.args.self.now.lists.items c.push.new.self.items c.args.numbers e) refl (none p)

pub returns-clause-means : goal.returns-clause-means
returns-clause-means c = λ p code laid m.
    let e : c.push.new.self.items ≡ c.args.self.now.lists.items ++ c.args.numbers ∷ [] = grind (arith, common_steps) in
    let n : c.len-number.result ≡ length c.args.self.now.lists.items = grind (arith, common_steps) in
    let x = last_of c.args.self.now.lists.items c.push.new.self.items c.args.numbers c.args.numbers e in
    let l : c.len-number.result < length c.push.new.self.items = omega (arith, n, x.0) in
    m.lists c.len-number.result l ∙ (ap (λ i. get_or (map (λ v. v.items) c.push.new.self.items) i []) n ∙ texts_last (λ v. v.items) c.args.self.now.lists.items c.push.new.self.items c.args.numbers e)

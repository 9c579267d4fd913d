use Rattle.std.proofs.Common.{◌≡◌, ◌∙◌, ◌++◌, ◌<◌, ap, arith, get_or, length}
use Rattle.std.proofs.lemmas.Grind.{common_steps}
use Rattle.matcher_sets.proofs.Properties.{property_added}
use Rattle.matcher_sets.proofs.difference.push_property.Goals as goal

pub returns : goal.returns
returns c = λ h.
    let p = c.args.program.now in
    let d = c.in-Some.property.now in
    let l : c.args.number < length p.properties.items = grind (arith, common_steps) in
    let is : d ≡ get_or p.properties.items c.args.number d = grind (arith, common_steps) in
    let e : c.extend_from_slice.new.self.items ≡ c.args.ranges.now.items ++ d.ranges.items = grind (arith, common_steps) in
    property_added p c.args.name.now c.args.number c.requires.bound c.args.ranges.now.items c.extend_from_slice.new.self.items l d
    (e ∙ ap (λ q. c.args.ranges.now.items ++ q.ranges.items) is)

use Rattle.std.proofs.Common.{◌∙◌, ◌≤◌, ap, map, length, rules}
use Rattle.std.proofs.lemmas.List.{take_all}
use Rattle.front_analysis.specs.Names.{grammar_of}
use Rattle.front_analysis.proofs.Numbered.{mapped_more}
use Rattle.front_analysis.specs.NameKinds.{kind_in}
use Rattle.front_analysis.proofs.Tying.{kind_at, with_kinds}
use Rattle.front_analysis.proofs.kinds.kinds_of.Goals as goal

pub loop-place-preserved : goal.loop-place-preserved
loop-place-preserved c = λ rs known.
    let f = kind_at (kind_in (grammar_of rs)) in
    mapped_more f c.args.nodes.now c.loop-place.place c.index-nodes-place.result c.loop-place.kinds.items c.push.new.self.items c.kind_of_shape.result c.loop-place-test.true c.in_ok-push.ensures.items
    (c.kind_of_shape.ensures rs known ∙ ap f c.index-nodes-place.is) (c.loop-place.invariant rs known)

pub returns : goal.returns
returns c = λ rs known all h.
    let names = kind_in (grammar_of rs) in
    let done : length c.args.nodes.now ≤ c.loop-place.place = search rules in
    with_kinds names all c.args.nodes.now c.loop-place.kinds.items h (c.loop-place.invariant rs known ∙ ap (map (kind_at names)) (take_all c.loop-place.place c.args.nodes.now done))

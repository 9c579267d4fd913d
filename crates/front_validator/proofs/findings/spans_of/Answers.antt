use Rattle.std.proofs.Common.{◌∙◌, ◌<◌, ◌≤◌, ap, map, length, rules}
use Rattle.std.proofs.lemmas.List.{map-append, take_all}
use Rattle.front_spanned.specs.Nodes.{piece_of}
use Rattle.front_analysis.specs.Nodes.{all_nodes}
use Rattle.front_analysis.specs.declared.table.Node.{Node}
use Rattle.front_analysis.proofs.Numbered.{mapped_more, spans_alike}
use Rattle.front_validator.proofs.findings.spans_of.Goals as goal

pub loop-place-preserved : goal.loop-place-preserved
loop-place-preserved c =
    let n = c.index.result.now in
    let pushed = ap (map piece_of) c.in_ok-push.ensures.items ∙ map-append piece_of c.loop-place.spans.items _ in
    let inside : c.loop-place.place < length c.args.table.now.nodes.items = search rules in
    mapped_more (λ (m : Node). piece_of m.span.now) c.args.table.now.nodes.items c.loop-place.place n (map piece_of c.loop-place.spans.items) (map piece_of c.push.new.self.items) (piece_of n.span.now) inside pushed
    (ap (λ (m : Node). piece_of m.span.now) c.index.ensures) c.loop-place.invariant

pub returns : goal.returns
returns c = λ rs h.
    let ns = c.args.table.now.nodes.items in
    let done : length ns ≤ c.loop-place.place = search rules in
    c.loop-place.invariant ∙ (ap (map (λ (m : Node). piece_of m.span.now)) (take_all c.loop-place.place ns done) ∙ spans_alike (all_nodes rs) ns h.numbered.nodes)

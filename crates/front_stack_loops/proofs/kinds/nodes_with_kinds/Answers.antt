use Rattle.std.proofs.Common.{◌≡◌, ◌∙◌, ◌<◌, ◌≤◌, ap, map, length, rules}
use Rattle.std.proofs.lemmas.List.{take_all}
use Rattle.front_analysis.specs.Names.{grammar_of}
use Rattle.front_analysis.proofs.Numbered.{mapped_more}
use Rattle.front_stack_loops.specs.Names.{kind_in}
use Rattle.front_stack_loops.specs.declared.table.PassNode.{PassNode}
use Rattle.front_stack_loops.proofs.KindLemmas.{node_of, with_kinds}
use Rattle.front_stack_loops.proofs.kinds.nodes_with_kinds.Goals as goal

pub loop-place-preserved : goal.loop-place-preserved
loop-place-preserved c =
    let rs = c.args.grammar.now.rules.now in
    let names = kind_in (grammar_of rs) in
    let ns = c.args.grammar.now.table.nodes.items in
    let n = c.index-node.result.now in
    let made : PassNode = record { kind = c.kind_of_node.result; rule = n.rule; span = n.span } in
    let same : made ≡ node_of names n = ap (λ k. record made { kind = k }) (c.kind_of_node.ensures rs c.requires.known) in
    let inside : c.loop-place.place < length ns = search rules in
    mapped_more (node_of names) ns c.loop-place.place n c.loop-place.nodes.items c.push.new.self.items made inside c.in_ok-push.ensures.items
    (same ∙ ap (node_of names) c.index-node.ensures) c.loop-place.invariant

pub returns : goal.returns
returns c =
    let rs = c.args.grammar.now.rules.now in
    let names = kind_in (grammar_of rs) in
    let ns = c.args.grammar.now.table.nodes.items in
    let all : length ns ≤ c.loop-place.place = search rules in
    with_kinds rs names c.args.grammar.now.table c.loop-place.nodes.items c.requires.tabled
    (c.loop-place.invariant ∙ ap (map (node_of names)) (take_all c.loop-place.place ns all))

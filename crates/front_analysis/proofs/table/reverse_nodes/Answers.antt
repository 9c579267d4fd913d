use Rattle.std.proofs.Common.{◌≡◌, ◌∙◌, ◌++◌, [], ap, sym, refl}
use Rattle.std.proofs.lemmas.List.{append-nil}
use Rattle.front_spanned.specs.Nodes.{piece_of}
use Rattle.front_analysis.specs.Layout.{all_below, forwards}
use Rattle.front_analysis.proofs.LayoutLemmas.{taken_one}
use Rattle.front_analysis.proofs.table.reverse_nodes.Goals as goal

pub loop-next-init : goal.loop-next-init
loop-next-init c =
    let below = all_below c.args.waiting.now.items in
    ap (λ z. below ++ forwards z) c.requires ∙ append-nil below

pub loop-next-preserved : goal.loop-next-preserved
loop-next-preserved c =
    let n = c.in-Some.next in
    taken_one c.loop-next.waiting.items c.pop.new.self.items c.push_operands.new.waiting.items c.loop-next.inside.items c.push.new.self.items n (all_below c.args.waiting.now.items)
    c.in-Some.ensures.items (c.in_ok-push_operands.ensures (piece_of n.now.span)) c.in_ok-push.ensures.items c.loop-next.invariant

pub returns-clause-none : goal.returns-clause-none
returns-clause-none c = c.in_default.ensures.rest ∙ rw c.in_default.ensures.cases.0 refl

pub returns-clause-nodes : goal.returns-clause-nodes
returns-clause-nodes c =
    let none_left : c.pop.new.self.items ≡ [] = c.in_default.ensures.rest ∙ rw c.in_default.ensures.cases.0 refl in
    let none : c.loop-next.waiting.items ≡ [] = c.in_default.ensures.items ∙ (append-nil c.pop.new.self.items ∙ none_left) in
    sym (ap (λ z. all_below z ++ forwards c.loop-next.inside.items) none) ∙ c.loop-next.invariant

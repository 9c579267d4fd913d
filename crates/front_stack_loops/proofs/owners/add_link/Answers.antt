use Rattle.std.proofs.Common.{◌≡◌, ◌<◌, Some, sym, ◌∙◌, ap, subst, refl, rules, length, slice_get}
use Rattle.std.proofs.lemmas.Option.{slice_get_read}
use Rattle.front_stack_loops.specs.Leading.{AreLinks}
use Rattle.front_stack_loops.specs.Table.{called_by}
use Rattle.front_stack_loops.proofs.GroupLemmas.{one_link, owned_link}
use Rattle.front_stack_loops.proofs.owners.add_link.Goals as goal

pub returns : goal.returns
returns c =
    let ns = c.args.nodes.now in
    let roots = c.args.roots.now in
    let place = c.args.place in
    let n = c.index-nodes-place.result in
    let less : place < length ns = search rules in
    let at : slice_get ns place ≡ Some n = slice_get_read ns (length ns) place n refl less c.index-nodes-place.is in
    let o = sym c.owner_of.ensures ∙ c.in-Some-owner_of.is in
    let e = ap (λ z. called_by z.kind) c.index-nodes-place.is ∙ (sym c.called_rule.ensures ∙ c.in-Some.is) in
    let link = owned_link ns roots c.args.owners.now place c.in-Some-owner_of.source c.in-Some.target n c.requires.owned at o e in
    subst (AreLinks ns roots) (sym c.in_ok-push.ensures.items) (one_link ns roots c.args.links.now.items _ c.requires.links link)

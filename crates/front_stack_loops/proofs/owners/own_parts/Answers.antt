use Rattle.std.proofs.Common.{◌≡◌, ◌<◌, Some, inl, inr, sym, ◌∙◌, ap, refl, rules, length, slice_get}
use Rattle.std.proofs.lemmas.Option.{slice_get_read}
use Rattle.front_stack_loops.specs.Leading.{owner_in}
use Rattle.front_stack_loops.specs.Table.{parts_of}
use Rattle.front_stack_loops.proofs.GroupLemmas.{parts_owned}
use Rattle.front_stack_loops.proofs.owners.own_parts.Goals as goal

pub own-requires-clause-inside : goal.own-requires-clause-inside
own-requires-clause-inside c =
    let ns = c.args.nodes.now in
    let n = c.index-nodes-place.result in
    let less : c.args.place < length ns = search rules in
    let at : slice_get ns c.args.place ≡ Some n = slice_get_read ns (length ns) c.args.place n refl less c.index-nodes-place.is in
    let o = ap (λ l. owner_in l c.args.place) (sym c.as_slice.ensures.value) ∙ (sym c.owner_of.ensures ∙ c.in-Some.is) in
    let e = ap (λ z. parts_of z.kind) c.index-nodes-place.is ∙ (sym c.parts.ensures ∙ c.in-Inside.is) in
    parts_owned ns c.args.roots.now c.args.owners.now.items c.args.place c.in-Some.rule n _ c.requires o at e c.in-Inside.body refl

pub own-requires-in-Both-clause-inside : goal.own-requires-in-Both-clause-inside
own-requires-in-Both-clause-inside c =
    let ns = c.args.nodes.now in
    let n = c.index-nodes-place.result in
    let less : c.args.place < length ns = search rules in
    let at : slice_get ns c.args.place ≡ Some n = slice_get_read ns (length ns) c.args.place n refl less c.index-nodes-place.is in
    let o = ap (λ l. owner_in l c.args.place) (sym c.as_slice.ensures.value) ∙ (sym c.owner_of.ensures ∙ c.in-Some.is) in
    let e = ap (λ z. parts_of z.kind) c.index-nodes-place.is ∙ (sym c.parts.ensures ∙ c.in-Both.is) in
    parts_owned ns c.args.roots.now c.args.owners.now.items c.args.place c.in-Some.rule n _ c.requires o at e c.in-Both.first (inl refl)

pub own-requires-in-Both-2-clause-inside : goal.own-requires-in-Both-2-clause-inside
own-requires-in-Both-2-clause-inside c =
    let ns = c.args.nodes.now in
    let n = c.index-nodes-place.result in
    let less : c.args.place < length ns = search rules in
    let at : slice_get ns c.args.place ≡ Some n = slice_get_read ns (length ns) c.args.place n refl less c.index-nodes-place.is in
    let o = ap (λ l. owner_in l c.args.place) (sym c.as_slice.ensures.value) ∙ (sym c.owner_of.ensures ∙ c.in-Some.is) in
    let e = ap (λ z. parts_of z.kind) c.index-nodes-place.is ∙ (sym c.parts.ensures ∙ c.in-Both.is) in
    parts_owned ns c.args.roots.now c.args.owners.now.items c.args.place c.in-Some.rule n _ c.requires o at e c.in-Both.second (inr refl)

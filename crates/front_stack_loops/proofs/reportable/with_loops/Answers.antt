use Rattle.std.proofs.Common.{◌≡◌, ◌∙◌, ◌+◌, ◌∷◌, ◌++◌, [], ◌||◌, Some, sym, ap, subst, arith, length, slice_get, get_or}
use Rattle.std.proofs.lemmas.List.{length_push}
use Rattle.std.proofs.lemmas.Option.{slice_get-get_or, slice_get_within}
use Rattle.base_graphs.specs.Least.{is_set_at}
use Rattle.front_stack_loops.specs.Answers.{some_part}
use Rattle.front_stack_loops.specs.Reportable.{may_loop}
use Rattle.front_stack_loops.specs.Table.{parts_of}
use Rattle.front_stack_loops.proofs.Silence.{AreToldTo, told_more}
use Rattle.front_stack_loops.proofs.reportable.with_loops.Goals as goal

pub loop-place-preserved : goal.loop-place-preserved
loop-place-preserved c =
    let ns = c.args.nodes.now in
    let still = c.args.still.now in
    let place = c.loop-place.place in
    let n = get_or ns place c.index-nodes-place.result in
    let flags = c.loop-place.flags.items in
    let b = c.has_loop-flag.result in
    let here : slice_get ns place ≡ Some n = slice_get-get_or ns place c.index-nodes-place.result c.loop-place-test.true in
    let value : b ≡ (may_loop (is_set_at still) (parts_of n.kind) || some_part (is_set_at flags) (parts_of n.kind)) =
    c.has_loop-flag.ensures ∙ (ap (λ l. may_loop (is_set_at still) c.parts-parts.result || some_part (is_set_at l) c.parts-parts.result) c.as_slice.ensures.value
    ∙ ap (λ ps. may_loop (is_set_at still) ps || some_part (is_set_at flags) ps) c.parts-parts.ensures) in
    let e : c.push.new.self.items ≡ flags ++ b ∷ [] = c.in_ok-push.ensures.items in
    record {
      many = ap length e ∙ (length_push flags b ∙ ap (λ k. k + 1) c.loop-place.invariant.many);
      told = subst (λ z. AreToldTo ns still z (place + 1)) (sym e) (told_more ns still flags place n b c.requires c.loop-place.invariant.many here value c.loop-place.invariant.told);
    }

pub returns : goal.returns
returns c = λ i n at.
    let w = slice_get_within c.args.nodes.now i n at in
    c.loop-place.invariant.told i n (omega arith) at

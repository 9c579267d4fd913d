use Rattle.std.proofs.Common.{refl, ◌∙◌}
use Rattle.front_spanned.specs.Nodes.{view}
use Rattle.front_reader.proofs.FlawsInOrder.{answers_as}
use Rattle.front_reader.proofs.Levels.{opened, push_closed}
use Rattle.front_reader.proofs.Nodes.{end_of-view}
use Rattle.front_reader.proofs.rules.reading.close_push.Goals as goal

pub span_at-span-requires : goal.span_at-span-requires
span_at-span-requires c =
    let s = c.requires.1 in
    let k = push_closed c.args.inside s.opens s.nested s.reads.1 in
    rw c.end.ensures k.place

pub apply_postfixes-requires-clause-place : goal.apply_postfixes-requires-clause-place
apply_postfixes-requires-clause-place c =
    let s = c.requires.1 in
    let k = push_closed c.args.inside s.opens s.nested s.reads.1 in
    k.before _ (rw (c.span_at-span.ensures, c.end.ensures, c.into_inner.ensures, c.in_ok-inside.ensures, end_of-view c.args.inside) refl)

pub returns : goal.returns
returns c = λ us s.
    let k = push_closed c.args.inside s.opens s.nested s.reads.1 in
    let o = opened s.opens in
    let q = rw (c.span_at-span.ensures, c.end.ensures, c.into_inner.ensures, c.in_ok-inside.ensures) at c.apply_postfixes.ensures in
    answers_as _ _ _ _ _ (o.flaw ∙ rw s.reads.0 refl) (λ n d. k.reads (view n) (rw (end_of-view c.args.inside) d)) q

use Rattle.std.proofs.Common.{[], ◌∷◌, ◌++◌, map, ap, sym, refl, ◌∙◌, arith}
use Rattle.serde_json.specs.View.{view}
use Rattle.format_json.specs.Placed.{span_data}
use Rattle.format_json.proofs.Turns.{written_on}
use Rattle.front_spanned.specs.Nodes.{piece_of}
use Rattle.front_spanned.specs.Spanned.{span_of}
use Rattle.front_spanned.specs.Walk.{waiting}
use Rattle.front_spanned.proofs.Walks.{waiting_on, waits_less}
use Rattle.front_spanned.proofs.Places.{span_at}
use Rattle.format_json.proofs.placed.spans_value.Goals as goal

pub loop-next-smaller : goal.loop-next-smaller
loop-next-smaller c =
    omega (arith, waits_less c.loop-next.waiting.items c.pop.new.self.items c.push_operands.new.stack.items c.in-Some.next c.in-Some.ensures.items c.in_ok-push_operands.ensures)

-- the place of the node is written, and its operands wait in its place
pub loop-next-preserved : goal.loop-next-preserved
loop-next-preserved c =
    let next = c.in-Some.next in
    let rest = c.push_operands.new.stack.items in
    let value = c.in_ok-span_value.field-0 in
    let taken = waiting_on c.loop-next.waiting.items c.pop.new.self.items rest next c.in-Some.ensures.items c.in_ok-push_operands.ensures in
    let here = ap span_data (span_at (piece_of next.now.span) next.now.expr) ∙ sym c.in_ok-span_value.ensures in
    let places = ap (map (λ x. span_data (span_of x))) taken ∙ ap (λ d. d ∷ map (λ x. span_data (span_of x)) (waiting rest)) here in
    ap (λ vs. map view vs ++ map (λ x. span_data (span_of x)) (waiting rest)) c.in_ok-push-2.ensures.items
    ∙ written_on c.loop-next.spans.items value _ (view value ∷ []) [] (map (λ x. span_data (span_of x)) (waiting rest)) _ _ c.loop-next.invariant places refl refl

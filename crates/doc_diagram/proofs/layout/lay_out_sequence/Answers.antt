use Rattle.std.proofs.Common.{◌≡◌, ◌∙◌, ◌<◌, ◌≤◌, ◌++◌, ℕ, List, ap, append_assoc, arith, length, length-append, subst, sym}
use Rattle.std.proofs.lemmas.Bool.Decides.{nat_tests}
use Rattle.std.proofs.lemmas.List.Elements.{All-append}
use Rattle.doc_diagram.specs.Spaces.{HasRoomFor, box_width}
use Rattle.doc_diagram.specs.declared.boxes.Extent.{Extent}
use Rattle.doc_diagram.proofs.layout.lay_out_sequence.Goals as goal
use Rattle.doc_diagram.proofs.layout.lay_out_sequence.Goals.{else-row-eq0, then-row-eq0}

pub loop-row-preserved : goal.loop-row-preserved
loop-row-preserved c =
    let boxes = c.args.boxes.now in
    let before = c.loop-row.invariant in
    let placed = before.0 in
    let rest = c.loop-row.rest.now in
    let items = c.split_at.result.0.now in
    let others = c.split_at.result.1.now in
    let some : 0 < length rest = grind (arith, nat_tests) in
    let room : HasRoomFor boxes (placed ++ items) c.if-row-eq0.whole.width =
    elim c.if-row-eq0.branch [
      | then-row-eq0 w ↦
          subst (λ (p : List ℕ). HasRoomFor boxes (p ++ items) c.if-row-eq0.whole.width) (sym (before.3 w.if-row-eq0.true))
          (subst (λ (e : Extent). HasRoomFor boxes items e.width) (sym w.whole-is) w.lay_out_first_row-whole.ensures)
      | else-row-eq0 w ↦
          subst (λ (e : Extent). HasRoomFor boxes (placed ++ items) e.width) (sym w.whole-is)
          (All-append (λ i. box_width boxes i ≤ w.lay_out_row-whole.result.width) placed items
          (λ k d l. omega (arith, before.4 k d l, w.lay_out_row-whole.ensures.above)) w.lay_out_row-whole.ensures.room)
    ] in (
      placed ++ items,
      before.1 ∙ ap (λ t. placed ++ t) c.split_at.ensures.by_index.0 ∙ sym (append_assoc placed items others),
      omega (arith, before.2, length-append placed items, c.row_length.ensures some, c.split_at.ensures.front_len),
      λ e. absurd (omega (arith, e)),
      room,
    )

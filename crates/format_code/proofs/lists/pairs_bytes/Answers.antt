use Rattle.std.proofs.Common.{◌∙◌, ◌++◌, ap, append_assoc, arith, get_or}
use Rattle.std.specs.Int.{to_le_bytes, w32}
use Rattle.std.proofs.lemmas.Grind.{common_steps}
use Rattle.matcher_code.specs.Words.{pairs_in}
use Rattle.matcher_code.proofs.Pieces.{pairs_more}
use Rattle.format_code.proofs.lists.pairs_bytes.Goals as goal

pub loop-low-preserved : goal.loop-low-preserved
loop-low-preserved c =
    let i = c.loop-low.low-index in
    let before = c.loop-low.invariant in
    let pair = get_or c.args.pairs.now i (0, 0) in
    let low = to_le_bytes w32 pair.0 in
    let high = to_le_bytes w32 pair.1 in
    let first = c.in_ok-push_word.ensures.bytes in
    let second = c.in_ok-push_word-2.ensures.bytes in
    let both = second ∙ (ap (λ xs. xs ++ high) first ∙ append_assoc c.loop-low.bytes.items low high) in
    let e = pairs_more i c.loop-low.bytes.items pair.0 pair.1 before.1 c.push_word.ensures.fits
    c.push_word-in-loop-low.ensures.fits in
    (ap pairs_in both ∙ e ∙ grind (arith, common_steps, before.0), grind (arith, common_steps))

use Rattle.std.proofs.Common.{◌∙◌, ap, arith, get_or}
use Rattle.std.proofs.lemmas.Grind.{common_steps}
use Rattle.matcher_code.specs.Words.{words_in}
use Rattle.matcher_code.proofs.Pieces.{words_more}
use Rattle.format_code.proofs.lists.words_bytes.Goals as goal

pub loop-word-preserved : goal.loop-word-preserved
loop-word-preserved c =
    let i = c.loop-word.word-index in
    let before = c.loop-word.invariant in
    let word = get_or c.args.words.now i 0 in
    let e = words_more i c.loop-word.bytes.items word before.1 c.push_word.ensures.fits in
    (ap words_in (c.in_ok-push_word.ensures.bytes) ∙ e ∙ grind (arith, common_steps, before.0), grind (arith, common_steps))

use Rattle.std.proofs.Common.{◌≡◌, ◌<◌, ◌≤◌, ◌∙◌, List, ℕ, [], ◌∷◌, ◌++◌, ap, append-nil, arith, flat_map, get_or, length, length-append, refl, sym, take}
use Rattle.std.specs.Int.{to_le_bytes, w32}
use Rattle.std.proofs.lemmas.Grind.{common_steps, flat_map-append}
use Rattle.std.proofs.lemmas.List.{length-set, take_all, take_more_set}
use Rattle.matcher_code.specs.Words.{words_in}
use Rattle.matcher_code.proofs.Pieces.{words_more}
use Rattle.format_code.proofs.lists.word_pieces.Goals as goal

-- the bytes of pieces and of one more
one_more : (ps : List (List ℕ)) (p : List ℕ) → flat_map (λ x. x) (ps ++ p ∷ []) ≡ flat_map (λ x. x) ps ++ p
one_more ps p = flat_map-append (λ x. x) ps (p ∷ []) ∙ ap (λ q. flat_map (λ x. x) ps ++ q) (append-nil p)

pub loop-index-preserved : goal.loop-index-preserved
loop-index-preserved c =
    let i = c.loop-index.index in
    let before = c.loop-index.invariant in
    let word = get_or c.args.words.now i 0 in
    let ps = c.loop-index.pieces.items in
    let piece = c.word_bytes.result in
    let xs = flat_map (λ x. x) (take i ps) in
    let within : i < length ps = omega (arith, before.long, c.loop-index-test.true) in
    let both = ap (flat_map (λ x. x)) (take_more_set ps i piece within)
    ∙ (one_more (take i ps) piece ∙ ap (λ p. xs ++ p) c.word_bytes.ensures.bytes) in
    let four : length (to_le_bytes w32 word) ≡ 4 = refl in
    record {
      long = length-set ps i piece ∙ before.long;
      words = ap words_in both ∙ (words_more i xs word before.size c.word_bytes.ensures.fits ∙ grind (arith, common_steps, before.words));
      size = ap length both ∙ (length-append xs (to_le_bytes w32 word) ∙ omega (arith, before.size, four));
    }

pub returns : goal.returns
returns c =
    let i = c.loop-index.index in
    let ps = c.loop-index.pieces.items in
    let before = c.loop-index.invariant in
    let all : length c.args.words.now ≤ i = omega (arith, c.loop-index-test.false) in
    let whole : take i ps ≡ ps = take_all i ps (omega (arith, all, before.long)) in
    ap (λ qs. words_in (flat_map (λ x. x) qs)) (sym whole) ∙ (before.words ∙ take_all i c.args.words.now all)

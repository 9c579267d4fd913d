use Rattle.std.proofs.Common.{◌≡◌, ◌*◌, flat_map, length, take}
use Rattle.matcher_code.specs.Words.{words_in}
use Rattle.format_code.proofs.lists.word_pieces.Given as goal

-- the words so far
abbrev pub invariant-loop-index : goal.invariant-loop-index
invariant-loop-index l = record {
  long : length l.pieces.items ≡ length l.words;
  words : words_in (flat_map (λ x. x) (take l.index l.pieces.items)) ≡ take l.index l.words;
  size : length (flat_map (λ x. x) (take l.index l.pieces.items)) ≡ l.index * 4;
}

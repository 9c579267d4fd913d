use Rattle.std.proofs.Common.{◌≡◌, ◌*◌, length, take}
use Rattle.matcher_code.specs.Words.{words_in}
use Rattle.format_code.proofs.lists.words_bytes.Given as goal

-- the words so far
abbrev pub invariant-loop-word : goal.invariant-loop-word
invariant-loop-word l =
    (words_in l.bytes.items ≡ take l.word-index l.words) × (length l.bytes.items ≡ l.word-index * 4)

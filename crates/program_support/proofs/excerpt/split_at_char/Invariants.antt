use Rattle.std.proofs.Common.{◌≡◌, ◌-◌, ◌^◌, encode_utf8_all, length}
use Rattle.std.specs.Prelude.{min}
use Rattle.program_support.proofs.excerpt.split_at_char.Given as goal

-- the bytes of the characters so far
abbrev pub invariant-loop-character : goal.invariant-loop-character
invariant-loop-character l = l.byte ≡ min (length (encode_utf8_all l.yielded)) (2 ^ 64 - 1)

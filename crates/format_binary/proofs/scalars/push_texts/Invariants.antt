use Rattle.std.proofs.Common.{◌≡◌, ◌++◌, flat_map, length, string_bytes, take}
use Rattle.format_binary.specs.Format.{size_bytes, text_bytes}
use Rattle.format_binary.proofs.scalars.push_texts.Given as goal

-- what is written are the texts so far
abbrev pub invariant-loop-text : goal.invariant-loop-text
invariant-loop-text l =
    l.out.items ≡ (l.fn.out.items ++ size_bytes (length l.texts)) ++ flat_map (λ text. text_bytes (string_bytes text)) (take l.text-index l.texts)

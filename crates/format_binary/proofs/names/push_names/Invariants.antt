use Rattle.std.proofs.Common.{◌≡◌, ◌++◌, flat_map, length, take}
use Rattle.format_binary.specs.Format.{size_bytes, text_bytes}
use Rattle.format_binary.proofs.names.push_names.Given as goal

-- what is written are the names so far
abbrev pub invariant-loop-name : goal.invariant-loop-name
invariant-loop-name l =
    l.out.items ≡ (l.fn.out.items ++ size_bytes (length l.names)) ++ flat_map (λ name. text_bytes name.now) (take l.name-index l.names)

use Rattle.std.proofs.Common.{◌≡◌, map, take}
use Rattle.format_binary.specs.Format.{type_byte}
use Rattle.matcher_engine.proofs.block.making.types_of.Given as goal

-- the types so far
abbrev pub invariant-loop-rule : goal.invariant-loop-rule
invariant-loop-rule l = l.types.items ≡ map (λ r. type_byte r.ty) (take l.rule-index l.rules)

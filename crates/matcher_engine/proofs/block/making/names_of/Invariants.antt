use Rattle.std.proofs.Common.{◌≡◌, map, string_bytes, take}
use Rattle.matcher_engine.proofs.block.making.names_of.Given as goal

-- the names so far
abbrev pub invariant-loop-rule : goal.invariant-loop-rule
invariant-loop-rule l = map (λ n. n.now) l.names.items ≡ map (λ r. string_bytes r.name) (take l.rule-index l.rules)

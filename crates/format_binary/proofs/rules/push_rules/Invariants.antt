use Rattle.std.proofs.Common.{◌≡◌, ◌++◌, flat_map, length, string_bytes, take}
use Rattle.format_binary.specs.Format.{expression_bytes, rule_bytes, size_bytes}
use Rattle.format_binary.proofs.rules.push_rules.Given as goal

-- what is written are the rules so far
abbrev pub invariant-loop-rule : goal.invariant-loop-rule
invariant-loop-rule l =
    l.out.items ≡ (l.fn.out.items ++ size_bytes (length l.rules)) ++ flat_map (λ r. rule_bytes (string_bytes r.name) r.ty (expression_bytes r.expr)) (take l.rule-index l.rules)

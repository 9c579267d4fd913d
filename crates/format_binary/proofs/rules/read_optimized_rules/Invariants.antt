use Rattle.std.proofs.Common.{◌≡◌, ◌++◌, All, flat_map, length, string_bytes}
use Rattle.format_binary.specs.Indices.{HasIndices}
use Rattle.format_binary.specs.Format.{optimized_expression_bytes, rule_bytes, size_bytes}
use Rattle.format_binary.proofs.Refused.{RulesLeft}
use Rattle.format_binary.proofs.rules.read_optimized_rules.Given as goal

-- what is read are the rules so far, and the others of a list are left, if the bytes are that
abbrev pub invariant-loop-place : goal.invariant-loop-place
invariant-loop-place l = record {
  read : l.bytes ≡ (size_bytes l.count ++ flat_map (λ r. rule_bytes (string_bytes r.name) r.ty (optimized_expression_bytes r.expr)) l.rules.value.items) ++ l.input.rest.now;
  indices : All (λ r. HasIndices r.expr) l.rules.value.items;
  count : length l.rules.value.items ≡ l.place;
  left : RulesLeft l.bytes l.input.rest.now l.count l.place;
}

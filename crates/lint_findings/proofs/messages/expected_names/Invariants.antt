use Rattle.std.proofs.Common.{◌≡◌, map, take}
use Rattle.front_reader.specs.CommonNames.{common_name}
use Rattle.lint_findings.proofs.messages.expected_names.Given as goal

abbrev pub invariant-loop-rule : goal.invariant-loop-rule
invariant-loop-rule l = map (λ name. name.now) l.names.items ≡ map common_name (take l.rule-index l.rule-items)

use Rattle.std.proofs.Common.{◌≡◌, drop}
use Rattle.std.specs.List.{list_any}
use Rattle.lint_findings.specs.Codes.{has_name}
use Rattle.lint_findings.proofs.codes.Code.from_name.Given as goal

abbrev pub invariant-loop-facts : goal.invariant-loop-facts
invariant-loop-facts l = list_any (λ facts. has_name facts.code l.name) l.facts-items ≡ list_any (λ facts. has_name facts.code l.name) (drop l.facts-index l.facts-items)

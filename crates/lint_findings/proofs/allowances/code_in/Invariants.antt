use Rattle.std.proofs.Common.{◌≡◌, bytes_eq, drop, find, map}
use Rattle.lint_findings.specs.Allowances.{comment_of}
use Rattle.lint_findings.proofs.allowances.code_in.Given as goal

abbrev pub invariant-loop-facts : goal.invariant-loop-facts
invariant-loop-facts l =
    find (λ k. bytes_eq l.comment (comment_of k)) (map (λ facts. facts.code) (drop l.facts-index l.facts-items))
    ≡ find (λ k. bytes_eq l.comment (comment_of k)) (map (λ facts. facts.code) l.facts-items)

use Rattle.std.proofs.Common.{◌≡◌, ◌++◌, filter, map, take}
use Rattle.front_spanned.specs.Nodes.{rule_view}
use Rattle.lint_findings.specs.Allowances.{allowance_of, is_allowance}
use Rattle.lint_findings.specs.Fragments.{fragment_of}
use Rattle.lint_findings.proofs.allowances.add_allowances.Given as goal

abbrev pub invariant-loop-comment : goal.invariant-loop-comment
invariant-loop-comment l =
    l.found.items ≡ l.fn.found.items ++ map (allowance_of (rule_view l.rule)) (filter is_allowance (map fragment_of (take l.comment-index l.comment-items)))

use Rattle.std.proofs.Common.{◌∙◌, ap, bytes_eq, find, map, sym}
use Rattle.std.proofs.lemmas.List.{drop_all}
use Rattle.lint_findings.specs.Allowances.{comment_of}
use Rattle.lint_findings.proofs.Placing.{find_behind, find_here}
use Rattle.lint_findings.proofs.allowances.code_in.Goals as goal

pub returns-then-branch : goal.returns-then-branch
returns-then-branch c =
    find_here (λ facts. facts.code) (λ k. bytes_eq c.args.comment.now (comment_of k)) c.all_facts-facts-items.result.now c.loop-facts.facts-index _ _ c.loop-facts-test.true
    (sym c.in_ok-is_comment_of.ensures ∙ c.if-branch.true) c.loop-facts.invariant
    ∙ ap (find (λ k. bytes_eq c.args.comment.now (comment_of k))) c.all_facts-facts-items.ensures.codes

pub loop-facts-preserved : goal.loop-facts-preserved
loop-facts-preserved c =
    find_behind (λ facts. facts.code) (λ k. bytes_eq c.args.comment.now (comment_of k)) c.all_facts-facts-items.result.now c.loop-facts.facts-index _ _ c.loop-facts-test.true
    (sym c.in_ok-is_comment_of.ensures ∙ c.if-branch.false) c.loop-facts.invariant

pub returns : goal.returns
returns c =
    ap (λ fs. find (λ k. bytes_eq c.args.comment.now (comment_of k)) (map (λ facts. facts.code) fs)) (sym (drop_all c.loop-facts.facts-index c.all_facts-facts-items.result.now c.loop-facts-test.false))
    ∙ c.loop-facts.invariant ∙ ap (find (λ k. bytes_eq c.args.comment.now (comment_of k))) c.all_facts-facts-items.ensures.codes

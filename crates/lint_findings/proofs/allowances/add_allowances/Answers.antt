use Rattle.std.proofs.Common.{◌∙◌, ◌++◌, ap, append-nil, filter, map, sym}
use Rattle.std.proofs.lemmas.List.{take_all}
use Rattle.front_spanned.specs.Nodes.{rule_view}
use Rattle.lint_findings.specs.Allowances.{allowance_of, comments_above, is_allowance}
use Rattle.lint_findings.specs.Fragments.{fragment_of}
use Rattle.lint_findings.proofs.Allowed.{comment_allowed}
use Rattle.lint_findings.proofs.allowances.add_allowances.Goals as goal

pub loop-comment-init : goal.loop-comment-init
loop-comment-init c = sym (append-nil c.args.found.now.items)

pub loop-comment-preserved : goal.loop-comment-preserved
loop-comment-preserved c =
    comment_allowed (rule_view c.args.rule.now) c.comments_above-comment-items.result.now c.loop-comment.comment-index c.comment-item.result _ _ _ c.loop-comment-test.true c.comment-item.is
    c.in_ok-add_allowance.ensures c.loop-comment.invariant

pub returns : goal.returns
returns c =
    c.loop-comment.invariant ∙
    ap (λ comments. c.args.found.now.items ++ map (allowance_of (rule_view c.args.rule.now)) (filter is_allowance comments))
    (ap (map fragment_of) (take_all c.loop-comment.comment-index c.comments_above-comment-items.result.now c.loop-comment-test.false)
    ∙ c.comments_above-comment-items.ensures ∙ ap comments_above (ap (map fragment_of) c.deref.ensures.value ∙ c.in_ok-lines.ensures))

use Rattle.std.proofs.Common.{◌∙◌, ◌++◌, ◌∷◌, [], ap, if◌then◌else◌, sym}
use Rattle.matcher_support.proofs.EachRule.{rule_unless}
use Rattle.matcher_support.proofs.attempts.add_rule.Goals as goal

pub returns-then-contains : goal.returns-then-contains
returns-then-contains c =
    let rules = c.args.rules.now.items in
    let added = rule_unless c.contains.result c.deref.result.now rules c.args.rule c.contains.ensures.value c.deref.ensures.value in
    sym (added ∙ ap (λ b. if b then rules else rules ++ c.args.rule ∷ []) c.if-contains.true)

pub returns : goal.returns
returns c =
    let rules = c.args.rules.now.items in
    let added = rule_unless c.contains.result c.deref.result.now rules c.args.rule c.contains.ensures.value c.deref.ensures.value in
    c.in_ok-push.ensures.items ∙ sym (added ∙ ap (λ b. if b then rules else rules ++ c.args.rule ∷ []) c.if-contains.false)

use Rattle.std.proofs.Common.{◌≡◌, arith, rules, subst}
use Rattle.front_spanned.specs.Nodes.{rule_views}
use Rattle.lint_warnings.specs.Lists.{HasNames}
use Rattle.lint_warnings.specs.Tokens.{is_class_rule}
use Rattle.lint_warnings.proofs.Reached.{class_more, class_none}
use Rattle.lint_warnings.proofs.tokens.class_rules.Goals as goal

pub loop-calls-init : goal.loop-calls-init
loop-calls-init c = class_none (rule_views c.args.rules.now) c.new-names.result (search rules)

pub loop-calls-preserved : goal.loop-calls-preserved
loop-calls-preserved c =
    let views = rule_views c.args.rules.now in
    class_more c.loop-calls._calls views c.in_ok-names.names (c.in_ok-names.ensures (is_class_rule c.loop-calls._calls views) c.loop-calls.invariant)

pub returns : goal.returns
returns c =
    let views = rule_views c.args.rules.now in
    let all : c.loop-calls._calls ≡ 8 = omega arith in
    subst (λ k. HasNames (is_class_rule k views) c.loop-calls.names) all c.loop-calls.invariant

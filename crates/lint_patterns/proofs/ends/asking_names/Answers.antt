use Rattle.std.proofs.Common.{◌≡◌, arith, rules, subst}
use Rattle.front_spanned.specs.Nodes.{rule_views}
use Rattle.lint_warnings.specs.Lists.{HasNames}
use Rattle.lint_patterns.specs.Ends.{is_asking}
use Rattle.lint_patterns.proofs.Asking.{asking_more, asking_none, asking_same}
use Rattle.lint_patterns.proofs.ends.asking_names.Goals as goal

pub loop-calls-init : goal.loop-calls-init
loop-calls-init c = asking_none (rule_views c.args.rules.now) c.new-names.result (search rules)

pub loop-calls-preserved : goal.loop-calls-preserved
loop-calls-preserved c =
    let views = rule_views c.args.rules.now in
    asking_more c.loop-calls._calls views c.in_ok-found.found (c.in_ok-found.ensures (is_asking c.loop-calls._calls views) c.loop-calls.invariant)

pub returns : goal.returns
returns c =
    let views = rule_views c.args.rules.now in
    let all : c.loop-calls._calls ≡ 32 = omega arith in
    subst (λ k. HasNames (is_asking k views) c.loop-calls.names) all c.loop-calls.invariant

pub returns-then-have_same_names : goal.returns-then-have_same_names
returns-then-have_same_names c =
    asking_same c.loop-calls._calls 32 (rule_views c.args.rules.now) c.loop-calls.names c.in_ok-found.found (omega arith) c.loop-calls.invariant c.in_ok-found.ensures
    (c.have_same_names.ensures c.if-have_same_names.true)

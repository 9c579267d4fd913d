use Rattle.std.proofs.Common.{◌≡◌, ℕ, arith, subst}
use Rattle.front_spanned.specs.Nodes.{rule_views}
use Rattle.lint_warnings.specs.Lists.{HasNames, texts_of}
use Rattle.lint_warnings.specs.Skipping.{is_reached}
use Rattle.lint_warnings.proofs.Reached.{reached_more, reached_none}
use Rattle.lint_warnings.proofs.skipping.reached_names.Goals as goal

pub loop-calls-init : goal.loop-calls-init
loop-calls-init c = reached_none (texts_of c.args.roots.now) (rule_views c.args.rules.now) c.in_ok-names.names c.in_ok-names.ensures

pub loop-calls-preserved : goal.loop-calls-preserved
loop-calls-preserved c =
    let roots = texts_of c.args.roots.now in
    let rules = rule_views c.args.rules.now in
    reached_more c.loop-calls._calls roots rules c.in_ok-names-2.names (c.in_ok-names-2.ensures (is_reached c.loop-calls._calls roots rules) c.loop-calls.invariant)

pub returns : goal.returns
returns c =
    let roots = texts_of c.args.roots.now in
    let rules = rule_views c.args.rules.now in
    let all : c.loop-calls._calls ≡ 32 = omega arith in
    subst (λ k. HasNames (is_reached k roots rules) c.loop-calls.names) all c.loop-calls.invariant

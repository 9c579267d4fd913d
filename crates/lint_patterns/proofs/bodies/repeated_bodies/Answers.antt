use Rattle.std.proofs.Common.{map, rules, subst, take}
use Rattle.lint_patterns.specs.Bodies.{repeated_bodies}
use Rattle.lint_patterns.specs.BodyKeys.{KnowsBodies}
use Rattle.lint_patterns.proofs.SameBodies.{all_spans, rules_before, spans_more}
use Rattle.front_spanned.specs.Nodes.{piece_of, rule_views}
use Rattle.lint_patterns.proofs.bodies.repeated_bodies.Goals as goal

pub loop-rule-init : goal.loop-rule-init
loop-rule-init c = record { knows = search rules; spans = search rules }

pub loop-rule-preserved : goal.loop-rule-preserved
loop-rule-preserved c =
    let i = c.loop-rule.rule-index in
    let earlier = rule_views (take i c.args.rules.now) in
    let before = c.loop-rule.invariant in
    record {
      knows = subst (λ rs. KnowsBodies rs c.add_where_same.new.seen) (rules_before c.args.rules.now i c.rule-item.result c.loop-rule-test.true c.rule-item.is) (c.in_ok-add_where_same.ensures.known earlier before.knows);
      spans =
          spans_more (repeated_bodies (rule_views c.args.rules.now)) (map piece_of c.loop-rule.found.items) (map piece_of c.add_where_same.new.found.items) c.args.rules.now i c.rule-item.result
          c.loop-rule-test.true c.rule-item.is (c.in_ok-add_where_same.ensures.spans earlier before.knows) before.spans;
    }

pub returns : goal.returns
returns c =
    all_spans (repeated_bodies (rule_views c.args.rules.now)) (map piece_of c.loop-rule.found.items) (rule_views (take c.loop-rule.rule-index c.args.rules.now)) c.args.rules.now c.loop-rule.rule-index
    c.loop-rule-test.false c.loop-rule.invariant.spans

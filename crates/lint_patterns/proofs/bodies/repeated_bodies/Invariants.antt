use Rattle.std.proofs.Common.{◌≡◌, ◌++◌, drop, map, take}
use Rattle.lint_patterns.specs.Bodies as spec
use Rattle.lint_patterns.specs.BodyKeys.{KnowsBodies}
use Rattle.front_spanned.specs.Nodes.{piece_of, rule_views}
use Rattle.lint_patterns.proofs.bodies.repeated_bodies.Given as goal

abbrev pub invariant-loop-rule : goal.invariant-loop-rule
invariant-loop-rule l = record {
  knows : KnowsBodies (rule_views (take l.rule-index l.rules)) l.seen;
  spans : spec.repeated_bodies (rule_views l.rules)
      ≡ map piece_of l.found.items ++ spec.bodies_after (rule_views (take l.rule-index l.rules)) (rule_views (drop l.rule-index l.rules));
}

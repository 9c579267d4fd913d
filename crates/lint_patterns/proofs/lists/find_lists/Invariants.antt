use Rattle.std.proofs.Common.{List, ◌++◌, drop, map}
use Rattle.lint_patterns.specs.Rewritten.{FindsEach, is_optional_name}
use Rattle.front_spanned.specs.Nodes.{piece_of, rule_views}
use Rattle.front_spanned.specs.Spanned.{Span}
use Rattle.lint_patterns.proofs.lists.find_lists.Given as goal

abbrev pub invariant-loop-rule : goal.invariant-loop-rule
invariant-loop-rule l = (others : List Span) → FindsEach (is_optional_name (rule_views l.rules)) (rule_views (drop l.rule-index l.rules)) others
    → FindsEach (is_optional_name (rule_views l.rules)) (rule_views l.rules) (map piece_of l.found.items ++ others)

use Rattle.std.proofs.Common.{◌≡◌, false, map, take}
use Rattle.std.specs.Prelude.{flat_map}
use Rattle.front_spanned.specs.Nodes.{piece_of, rule_views}
use Rattle.lint_patterns.specs.Duplicates.{repeated_in}
use Rattle.lint_patterns.proofs.alternatives.repeated_alternatives.Given as goal

abbrev pub invariant-loop-rule : goal.invariant-loop-rule
invariant-loop-rule l = map piece_of l.found.items ≡ flat_map (λ r. repeated_in false r.body) (rule_views (take l.rule-index l.rules))

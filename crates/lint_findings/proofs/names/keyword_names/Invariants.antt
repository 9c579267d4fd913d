use Rattle.std.proofs.Common.{◌≡◌, map, take}
use Rattle.std.specs.Prelude.{flat_map}
use Rattle.front_spanned.specs.Nodes.{piece_of, rule_views}
use Rattle.lint_findings.specs.Names.{is_keyword, named_at}
use Rattle.lint_findings.proofs.names.keyword_names.Given as goal

abbrev pub invariant-loop-rule : goal.invariant-loop-rule
invariant-loop-rule l = map piece_of l.found.items ≡ flat_map (named_at is_keyword) (rule_views (take l.rule-index l.rules))

use Rattle.front_spanned.specs.Nodes.{rule_views}
use Rattle.lint_warnings.specs.Lists.{HasNames}
use Rattle.lint_patterns.specs.Ends.{is_asking}
use Rattle.lint_patterns.proofs.ends.asking_names.Given as goal

abbrev pub invariant-loop-calls : goal.invariant-loop-calls
invariant-loop-calls l = HasNames (is_asking l._calls (rule_views l.rules)) l.names

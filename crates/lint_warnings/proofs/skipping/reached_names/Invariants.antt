use Rattle.front_spanned.specs.Nodes.{rule_views}
use Rattle.lint_warnings.specs.Lists.{HasNames, texts_of}
use Rattle.lint_warnings.specs.Skipping.{is_reached}
use Rattle.lint_warnings.proofs.skipping.reached_names.Given as goal

abbrev pub invariant-loop-calls : goal.invariant-loop-calls
invariant-loop-calls l = HasNames (is_reached l._calls (texts_of l.roots) (rule_views l.rules)) l.names

use Rattle.std.proofs.Common.{take}
use Rattle.front_spanned.specs.Nodes.{rule_views}
use Rattle.lint_warnings.specs.Lists.{HasNames, texts_of}
use Rattle.lint_warnings.specs.Rules.{is_needed}
use Rattle.lint_warnings.proofs.rules.needed_names.Given as goal

abbrev pub invariant-loop-rule : goal.invariant-loop-rule
invariant-loop-rule l = HasNames (is_needed (texts_of l.starts) (rule_views (take l.rule-index l.rules))) l.needed

use Rattle.std.proofs.Common.{Bool, take}
use Rattle.base_language.specs.Language.Text.{Text}
use Rattle.front_spanned.specs.Nodes.{rule_views}
use Rattle.lint_warnings.specs.Lists.{HasNames}
use Rattle.lint_patterns.specs.Ends.{is_asking_by}
use Rattle.lint_patterns.proofs.ends.names_asking.Given as goal

abbrev pub invariant-loop-rule : goal.invariant-loop-rule
invariant-loop-rule l = (f : Text → Bool) → HasNames f l.known
    → HasNames (is_asking_by f (rule_views (take l.rule-index l.rules))) l.names

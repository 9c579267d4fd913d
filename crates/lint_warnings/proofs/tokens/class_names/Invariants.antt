use Rattle.std.proofs.Common.{Bool, take}
use Rattle.base_language.specs.Language.Text.{Text}
use Rattle.front_spanned.specs.Nodes.{rule_views}
use Rattle.lint_warnings.specs.Lists.{HasNames}
use Rattle.lint_warnings.specs.Tokens.{is_class_by}
use Rattle.lint_warnings.proofs.tokens.class_names.Given as goal

abbrev pub invariant-loop-rule : goal.invariant-loop-rule
invariant-loop-rule l = (f : Text → Bool) → HasNames f l.known
    → HasNames (is_class_by f (rule_views (take l.rule-index l.rules))) l.names

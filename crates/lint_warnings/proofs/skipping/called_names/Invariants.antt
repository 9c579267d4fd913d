use Rattle.std.proofs.Common.{Bool, take}
use Rattle.base_language.specs.Language.Text.{Text}
use Rattle.front_spanned.specs.Nodes.{rule_views}
use Rattle.lint_warnings.specs.Lists.{HasNames, texts_of}
use Rattle.lint_warnings.specs.Skipping.{is_root_or_called}
use Rattle.lint_warnings.proofs.skipping.called_names.Given as goal

abbrev pub invariant-loop-rule : goal.invariant-loop-rule
invariant-loop-rule l = (f : Text → Bool) → HasNames f l.names
    → HasNames (is_root_or_called f (texts_of l.roots) (rule_views (take l.rule-index l.rules))) l.called

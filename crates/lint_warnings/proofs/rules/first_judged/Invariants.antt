use Rattle.std.proofs.Common.{◌≡◌, Bool, drop}
use Rattle.base_language.specs.Language.Text.{Text}
use Rattle.front_spanned.specs.Nodes.{rule_views}
use Rattle.lint_warnings.specs.Rules.{after_first}
use Rattle.lint_warnings.proofs.rules.first_judged.Given as goal

abbrev pub invariant-loop-i : goal.invariant-loop-i
invariant-loop-i l = (f : Text → Bool) → after_first f (rule_views (drop l.i l.rules)) ≡ after_first f (rule_views l.rules)

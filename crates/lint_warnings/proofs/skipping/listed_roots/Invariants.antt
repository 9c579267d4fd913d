use Rattle.std.proofs.Common.{◌≡◌, Bool, take}
use Rattle.std.specs.Prelude.{flat_map}
use Rattle.base_language.specs.Language.Text.{Text}
use Rattle.front_spanned.specs.Nodes.{rule_views}
use Rattle.lint_warnings.specs.Lists.{HasNames, texts_of}
use Rattle.lint_warnings.specs.Skipping.{root_at}
use Rattle.lint_warnings.proofs.skipping.listed_roots.Given as goal

abbrev pub invariant-loop-rule : goal.invariant-loop-rule
invariant-loop-rule l = (f : Text → Bool) → HasNames f l.called
    → texts_of l.roots.items ≡ flat_map (root_at f) (rule_views (take l.rule-index l.rules))

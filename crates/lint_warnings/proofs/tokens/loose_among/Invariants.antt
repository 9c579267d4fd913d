use Rattle.std.proofs.Common.{◌≡◌, Bool, map, take}
use Rattle.std.specs.Prelude.{flat_map}
use Rattle.base_language.specs.Language.Text.{Text}
use Rattle.front_spanned.specs.Nodes.{piece_of, rule_views}
use Rattle.lint_warnings.specs.Lists.{HasNames}
use Rattle.lint_warnings.specs.Tokens.{loose_in_rule}
use Rattle.lint_warnings.proofs.tokens.loose_among.Given as goal

abbrev pub invariant-loop-rule : goal.invariant-loop-rule
invariant-loop-rule l = (f g : Text → Bool) → HasNames f l.called → HasNames g l.classes
    → map piece_of l.found.items ≡ flat_map (loose_in_rule f g) (rule_views (take l.rule-index l.rules))

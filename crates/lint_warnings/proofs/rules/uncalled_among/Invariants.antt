use Rattle.std.proofs.Common.{◌≡◌, Bool, map, take}
use Rattle.std.specs.Prelude.{flat_map}
use Rattle.base_language.specs.Language.Text.{Text}
use Rattle.front_spanned.specs.Nodes.{piece_of, rule_views}
use Rattle.lint_warnings.specs.Lists.{HasNames}
use Rattle.lint_warnings.specs.Rules.{uncalled_at}
use Rattle.lint_warnings.proofs.rules.uncalled_among.Given as goal

abbrev pub invariant-loop-rule : goal.invariant-loop-rule
invariant-loop-rule l = (f : Text → Bool) → HasNames f l.needed
    → map piece_of l.found.items ≡ flat_map (uncalled_at f) (rule_views (take l.rule-index l.others))

use Rattle.std.proofs.Common.{◌≡◌, Bool, map, take}
use Rattle.std.specs.Prelude.{flat_map}
use Rattle.base_language.specs.Language.Text.{Text}
use Rattle.front_spanned.specs.Nodes.{piece_of, rule_views}
use Rattle.lint_warnings.specs.Lists.{HasNames}
use Rattle.lint_patterns.specs.Ends.{entry_at}
use Rattle.lint_patterns.proofs.ends.entry_spans.Given as goal

abbrev pub invariant-loop-rule : goal.invariant-loop-rule
invariant-loop-rule l = (f : Text → Bool) → HasNames f l.called
    → map piece_of l.found.items ≡ flat_map (entry_at f) (rule_views (take l.rule-index l.rules))

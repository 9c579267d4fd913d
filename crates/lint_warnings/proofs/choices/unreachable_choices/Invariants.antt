use Rattle.std.proofs.Common.{◌≡◌, map, take}
use Rattle.std.specs.Prelude.{flat_map}
use Rattle.front_spanned.specs.Nodes.{rule_views}
use Rattle.lint_warnings.specs.Choices.{choices_in}
use Rattle.lint_warnings.specs.Groups.{pieces_of}
use Rattle.lint_warnings.proofs.choices.unreachable_choices.Given as goal

abbrev pub invariant-loop-rule : goal.invariant-loop-rule
invariant-loop-rule l = map pieces_of l.found.items ≡ flat_map (λ r. choices_in r.body) (rule_views (take l.rule-index l.rules))

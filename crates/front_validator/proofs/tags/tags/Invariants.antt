use Rattle.std.proofs.Common.{◌≡◌, take}
use Rattle.std.specs.Prelude.{flat_map}
use Rattle.front_spanned.specs.Nodes.{rule_views}
use Rattle.front_analysis.specs.Names.{grammar_of}
use Rattle.front_validator.specs.Reporting.{findings_of}
use Rattle.front_validator.specs.Tags.{of_tags_in}
use Rattle.front_validator.proofs.tags.tags.Given as goal

abbrev pub invariant-loop-rule : goal.invariant-loop-rule
invariant-loop-rule l =
    findings_of l.found.items
    ≡ flat_map (λ r. of_tags_in (grammar_of l.rules) r.body) (rule_views (take l.rule-index l.rules))

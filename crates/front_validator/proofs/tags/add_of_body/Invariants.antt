use Rattle.std.proofs.Common.{◌≡◌, ◌++◌, length}
use Rattle.std.specs.Prelude.{flat_map}
use Rattle.front_spanned.specs.Nodes.{view}
use Rattle.front_spanned.specs.Walk.{waiting}
use Rattle.front_analysis.specs.Names.{grammar_of}
use Rattle.front_validator.specs.Reporting.{findings_of}
use Rattle.front_validator.specs.Tags.{of_tag, of_tags_in}
use Rattle.front_validator.proofs.tags.add_of_body.Given as goal

abbrev pub invariant-loop-next : goal.invariant-loop-next
invariant-loop-next l =
    findings_of l.found.items ++ flat_map (of_tag (grammar_of l.fn.rules)) (waiting l.stack.items)
    ≡ findings_of l.fn.found.items ++ of_tags_in (grammar_of l.fn.rules) (view l.fn.body)

abbrev pub decreases-loop-next : goal.decreases-loop-next
decreases-loop-next l = length (waiting l.stack.items)

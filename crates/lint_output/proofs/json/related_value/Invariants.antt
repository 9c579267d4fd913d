use Rattle.std.proofs.Common.{◌≡◌, map, take}
use Rattle.serde_json.specs.View.{view}
use Rattle.lint_output.specs.Json.{part_data}
use Rattle.lint_output.specs.Locations.{IsIndexOf, location_at}
use Rattle.lint_output.proofs.json.related_value.Given as goal

-- what is written are the parts so far
abbrev pub invariant-loop-item : goal.invariant-loop-item
invariant-loop-item l = IsIndexOf l.fn.origin.text.now l.fn.origin.lines.now
    → map view l.values.items
    ≡ map (λ part. part_data part (location_at l.fn.origin.text.now part.start)) (take l.item-index l.related)

use Rattle.std.proofs.Common.{◌∙◌, [], ap}
use Rattle.lint_output.specs.Json.{part_data}
use Rattle.lint_output.specs.Locations.{location_at}
use Rattle.lint_output.proofs.Values.{one_more_value}
use Rattle.lint_output.proofs.json.related_value.Goals as goal

pub loop-item-preserved : goal.loop-item-preserved
loop-item-preserved c = λ indexed.
    one_more_value (λ part. part_data part (location_at c.args.origin.text.now part.start)) [] c.args.related.now c.loop-item.item-index c.item-item.result c.loop-item.values.items _ c.in_ok-part_value.field-0
    c.item-item.is c.loop-item-test.true c.in_ok-push.ensures.items
    (c.in_ok-part_value.ensures ∙ ap (part_data c.item-item.result) (c.locate-first.ensures indexed))
    (c.loop-item.invariant indexed)

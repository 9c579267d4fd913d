use Rattle.std.proofs.Common.{map}
use Rattle.serde_json.specs.View.{view}
use Rattle.lint_output.specs.Sarif.{result_data}
use Rattle.lint_output.proofs.Values.{one_more_value}
use Rattle.pest_lint.proofs.log.add_results.Goals as goal

pub loop-diagnostic-preserved : goal.loop-diagnostic-preserved
loop-diagnostic-preserved c =
    one_more_value (result_data c.args.name.now c.args.text.now) (map view c.args.results.now.items) c.args.diagnostics.now c.loop-diagnostic.diagnostic-index c.diagnostic-item.result c.loop-diagnostic.results.items _ c.in_ok-sarif_result.field-0
    c.diagnostic-item.is c.loop-diagnostic-test.true c.in_ok-push.ensures.items
    (c.in_ok-sarif_result.ensures c.in_ok-lines.ensures)
    c.loop-diagnostic.invariant

use Rattle.serde_json.specs.View.{view}
use Rattle.lint_output.proofs.Placing.{placed_result}
use Rattle.lint_output.proofs.sarif.sarif_result.Goals as goal

pub returns : goal.returns
returns c =
    placed_result c.located_value.result view _ c.args.origin.name.now c.args.origin.text.now c.args.diagnostic.now (view c.in_ok-fixes.fixes) c.locate-first.result c.locate-last.result
    c.located_value.ensures c.in_ok-fixes.ensures c.locate-first.ensures c.locate-last.ensures

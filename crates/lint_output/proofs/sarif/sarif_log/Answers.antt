use Rattle.std.proofs.Common.{◌∙◌, ap}
use Rattle.std.proofs.lemmas.Result.{IfOk-weaker}
use Rattle.serde_json.specs.View.{items_view}
use Rattle.serde_json.specs.Written.{has_float}
use Rattle.lint_output.specs.Json.{json_line}
use Rattle.lint_output.proofs.Floats.{log_without_floats}
use Rattle.lint_output.proofs.sarif.sarif_log.Goals as goal

pub returns : goal.returns
returns c =
    let built = c.in_ok-log.ensures in
    IfOk-weaker c.to_line.result _ _
    (λ text h no_rule none. h (ap has_float built ∙ log_without_floats (items_view c.args.rules.items) (items_view c.args.results.items) no_rule none) ∙ ap json_line built)
    c.to_line.ensures.text

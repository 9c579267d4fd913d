use Rattle.std.proofs.Common.{string_bytes}
use Rattle.serde_json.specs.View.{view}
use Rattle.lint_output.proofs.Placing.{line_text}
use Rattle.lint_output.proofs.json.to_json_line.Goals as goal

pub returns-clause-text : goal.returns-clause-text
returns-clause-text c =
    line_text c.to_line.result (λ x. string_bytes x) _ c.args.origin.name.now c.args.origin.text.now c.args.diagnostic.now (view c.in_ok-related.related) (view c.in_ok-value.value) c.locate-first.result c.locate-last.result
    c.in_ok-value.ensures (rw c.deref.ensures.value at c.in_ok-related.ensures) c.locate-first.ensures c.locate-last.ensures c.to_line.ensures.text

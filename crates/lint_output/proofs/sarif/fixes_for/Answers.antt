use Rattle.std.proofs.Common.{◌≡◌}
use Rattle.serde_json.specs.View.{view}
use Rattle.lint_output.specs.Sarif.{file_fix_data, list_data}
use Rattle.lint_output.proofs.Placing.{placed_twice}
use Rattle.lint_output.proofs.sarif.fixes_for.Goals as goal

pub returns : goal.returns
returns c =
    rw c.in-Some.is
    (placed_twice c.file_fix_value.result _ (λ first last value. view value ≡ list_data (file_fix_data c.args.origin.name.now c.args.message.now c.in-Some.fix first last)) c.locate-first.result c.locate-last.result _ _
    c.file_fix_value.ensures c.locate-first.ensures c.locate-last.ensures)

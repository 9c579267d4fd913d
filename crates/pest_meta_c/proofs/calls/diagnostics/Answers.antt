use Rattle.pest_meta_c.specs.Diagnostics.{AreDiagnostics}
use Rattle.pest_meta_c.proofs.Answering.{answered_so}
use Rattle.pest_meta_c.proofs.calls.diagnostics.Goals as goal

pub returns-clause-answered : goal.returns-clause-answered
returns-clause-answered c =
    answered_so (AreDiagnostics c.args.text.now) c.diagnostics_lines.result c.to_outcome.result c.diagnostics_lines.ensures c.to_outcome.ensures.answered

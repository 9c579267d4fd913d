use Rattle.std.proofs.Common.{◌∙◌, arith, sym}
use Rattle.server_symbols.specs.NewNames.{is_other}
use Rattle.server_symbols.proofs.Runs.{run_goes, run_over, run_stops}
use Rattle.server_symbols.proofs.scanning.name_end.Goals as goal

pub returns-then-not-is_other-clause-run : goal.returns-then-not-is_other-clause-run
returns-then-not-is_other-clause-run c =
    sym (c.loop-end.invariant ∙ run_stops is_other c.args.text.now c.loop-end.end (omega arith) (sym c.is_other.ensures ∙ c.if-not-is_other.true))

pub loop-end-preserved : goal.loop-end-preserved
loop-end-preserved c =
    c.loop-end.invariant ∙ run_goes is_other c.args.text.now c.loop-end.end (omega arith) (sym c.is_other.ensures ∙ c.if-not-is_other.false)

pub returns-clause-run : goal.returns-clause-run
returns-clause-run c = sym (c.loop-end.invariant ∙ run_over is_other c.args.text.now c.loop-end.end (omega arith) ∙ omega arith)

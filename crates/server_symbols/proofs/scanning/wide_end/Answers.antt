use Rattle.std.proofs.Common.{◌∙◌, arith, sym}
use Rattle.server_symbols.specs.Lexemes.{is_wide}
use Rattle.server_symbols.proofs.Runs.{run_goes, run_over, run_stops}
use Rattle.server_symbols.proofs.scanning.wide_end.Goals as goal

pub returns-then-not-is_wide-clause-run : goal.returns-then-not-is_wide-clause-run
returns-then-not-is_wide-clause-run c =
    sym (c.loop-end.invariant ∙ run_stops is_wide c.args.text.now c.loop-end.end (omega arith) (sym c.is_wide.ensures ∙ c.if-not-is_wide.true))

pub loop-end-preserved : goal.loop-end-preserved
loop-end-preserved c =
    c.loop-end.invariant ∙ run_goes is_wide c.args.text.now c.loop-end.end (omega arith) (sym c.is_wide.ensures ∙ c.if-not-is_wide.false)

pub returns-clause-run : goal.returns-clause-run
returns-clause-run c = sym (c.loop-end.invariant ∙ run_over is_wide c.args.text.now c.loop-end.end (omega arith) ∙ omega arith)

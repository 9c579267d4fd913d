use Rattle.std.proofs.Common.{◌∙◌, arith, sym}
use Rattle.std.specs.Char.{is_ascii_digit}
use Rattle.server_symbols.proofs.Runs.{run_goes, run_over, run_stops}
use Rattle.server_symbols.proofs.scanning.number_end.Goals as goal

pub returns-then-not-is_ascii_digit-clause-run : goal.returns-then-not-is_ascii_digit-clause-run
returns-then-not-is_ascii_digit-clause-run c =
    sym (c.loop-end.invariant ∙ run_stops is_ascii_digit c.args.text.now c.loop-end.end (omega arith) (sym c.is_ascii_digit.ensures.value ∙ c.if-not-is_ascii_digit.true))

pub loop-end-preserved : goal.loop-end-preserved
loop-end-preserved c =
    c.loop-end.invariant ∙ run_goes is_ascii_digit c.args.text.now c.loop-end.end (omega arith) (sym c.is_ascii_digit.ensures.value ∙ c.if-not-is_ascii_digit.false)

pub returns-clause-run : goal.returns-clause-run
returns-clause-run c = sym (c.loop-end.invariant ∙ run_over is_ascii_digit c.args.text.now c.loop-end.end (omega arith) ∙ omega arith)

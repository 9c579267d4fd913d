use Rattle.std.proofs.Common.{◌∙◌, ap, arith, not, sym}
use Rattle.server_symbols.specs.Lexemes.{is_line_end}
use Rattle.server_symbols.proofs.Runs.{run_goes, run_over, run_stops}
use Rattle.server_symbols.proofs.scanning.line_end.Goals as goal

pub returns-then-is_line_end-clause-run : goal.returns-then-is_line_end-clause-run
returns-then-is_line_end-clause-run c =
    sym (c.loop-end.invariant ∙ run_stops (λ byte. not (is_line_end byte)) c.args.text.now c.loop-end.end (omega arith) (ap not (sym c.is_line_end.ensures ∙ c.if-is_line_end.true)))

pub loop-end-preserved : goal.loop-end-preserved
loop-end-preserved c =
    c.loop-end.invariant ∙ run_goes (λ byte. not (is_line_end byte)) c.args.text.now c.loop-end.end (omega arith) (ap not (sym c.is_line_end.ensures ∙ c.if-is_line_end.false))

pub returns-clause-run : goal.returns-clause-run
returns-clause-run c = sym (c.loop-end.invariant ∙ run_over (λ byte. not (is_line_end byte)) c.args.text.now c.loop-end.end (omega arith) ∙ omega arith)

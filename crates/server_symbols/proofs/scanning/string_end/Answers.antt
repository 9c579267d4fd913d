use Rattle.std.proofs.Common.{◌∙◌, arith, sym}
use Rattle.server_symbols.proofs.Runs.{string_closes, string_goes, string_over, string_stops}
use Rattle.server_symbols.proofs.scanning.string_end.Goals as goal

pub returns-then-is_line_end-clause-end : goal.returns-then-is_line_end-clause-end
returns-then-is_line_end-clause-end c =
    omega (arith, c.loop-end.invariant, string_stops c.loop-end.is_escaped c.args.text.now c.loop-end.end (omega arith) (sym c.is_line_end.ensures ∙ c.if-is_line_end.true))

pub returns-then-is_closing_quote-clause-end : goal.returns-then-is_closing_quote-clause-end
returns-then-is_closing_quote-clause-end c =
    omega (arith, c.loop-end.invariant, string_closes c.loop-end.is_escaped c.args.text.now c.loop-end.end (omega arith) (sym c.is_line_end.ensures ∙ c.if-is_line_end.false) (sym c.is_closing_quote.ensures ∙ c.if-is_closing_quote.true))

pub loop-end-preserved : goal.loop-end-preserved
loop-end-preserved c =
    omega (arith, c.loop-end.invariant, string_goes c.loop-end.is_escaped c.is_escape-is_escaped.result c.args.text.now c.loop-end.end (omega arith) (sym c.is_line_end.ensures ∙ c.if-is_line_end.false) (sym c.is_closing_quote.ensures ∙ c.if-is_closing_quote.false) c.is_escape-is_escaped.ensures)

pub returns-clause-end : goal.returns-clause-end
returns-clause-end c = omega (arith, c.loop-end.invariant, string_over c.loop-end.is_escaped c.args.text.now c.loop-end.end (omega arith))

use Rattle.std.proofs.Common.{◌∙◌, ◌+◌, ap, arith, option_map, sym}
use Rattle.server_symbols.proofs.Runs.{character_closes, character_goes, character_over, character_stops, further}
use Rattle.server_symbols.proofs.scanning.character_end.Goals as goal

pub returns-then-is_line_end-clause-end : goal.returns-then-is_line_end-clause-end
returns-then-is_line_end-clause-end c =
    sym (c.loop-end.invariant ∙ ap (option_map (λ n. c.loop-end.end + n)) (character_stops c.loop-end.least c.args.text.now c.loop-end.end (omega arith) (sym c.is_line_end.ensures ∙ c.if-is_line_end.true)))

pub returns-then-is_last_quote-clause-end : goal.returns-then-is_last_quote-clause-end
returns-then-is_last_quote-clause-end c =
    sym (c.loop-end.invariant ∙ ap (option_map (λ n. c.loop-end.end + n)) (character_closes c.loop-end.least c.args.text.now c.loop-end.end (omega arith) (sym c.is_line_end.ensures ∙ c.if-is_line_end.false) (sym c.is_last_quote.ensures ∙ c.if-is_last_quote.true)))

pub loop-end-preserved : goal.loop-end-preserved
loop-end-preserved c =
    c.loop-end.invariant ∙ ap (option_map (λ n. c.loop-end.end + n)) (character_goes c.loop-end.least c.saturating_sub-least.result c.args.text.now c.loop-end.end (omega arith) (sym c.is_line_end.ensures ∙ c.if-is_line_end.false) (sym c.is_last_quote.ensures ∙ c.if-is_last_quote.false) c.saturating_sub-least.ensures) ∙ further c.loop-end.end _

pub returns-clause-end : goal.returns-clause-end
returns-clause-end c =
    sym (c.loop-end.invariant ∙ ap (option_map (λ n. c.loop-end.end + n)) (character_over c.loop-end.least c.args.text.now c.loop-end.end (omega arith)))

use Rattle.std.proofs.Common.{◌≡◌, length, true}
use Rattle.front_syntax.specs.declared.events.TokenEvent.TheVariants.{End}
use Rattle.format_grammar.specs.Tokens.{has_clean_lines}
use Rattle.format_grammar.proofs.comparison.has_clean_lines.Given as goal

abbrev pub invariant-loop-event : goal.invariant-loop-event
invariant-loop-event l = has_clean_lines l.text l.last l.rest ≡ true → has_clean_lines l.text (End 0 0) l.events ≡ true

abbrev pub decreases-loop-event : goal.decreases-loop-event
decreases-loop-event l = length l.rest

-- A text is its own formatted text if its lines and its end are clean.
use Rattle.std.proofs.Common.{◌≡◌, refl, ℕ, List, true}
use Rattle.front_syntax.specs.declared.events.TokenEvent.{TokenEvent}
use Rattle.format_grammar.specs.Formatting.{AreTokens, EndsOnce, IsFormatted, start}
use Rattle.format_grammar.specs.Tokens.{has_clean_lines}
use Rattle.format_grammar.specs.declared.LineEnds.{LineEnds}
use Rattle.format_grammar.specs.declared.LineEnds.TheVariants.{LineFeed}

pub its_own : (line_ends : LineEnds) (text : List ℕ) (events : List TokenEvent) → AreTokens text events → (line_ends ≡ LineFeed → has_clean_lines text start events ≡ true) → EndsOnce text → IsFormatted line_ends text text
its_own line_ends text events read lines last = record {
  events = events;
  others = events;
  of_text = read;
  of_formatted = read;
  tokens = refl;
  comments = refl;
  lines = lines;
  last_line = last;
  rules = record { same = λ rules. (λ h. h, λ h. h) };
}

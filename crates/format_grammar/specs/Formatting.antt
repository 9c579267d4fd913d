-- The formatted text of a grammar.
use Rattle.std.specs.Prelude.{◌≡◌, ◌≢◌, ◌≤◌, ◌-◌, ◌⊎◌, ℕ, List, [], length, slice_index, true}
use Rattle.std.specs.String.{string_bytes}
use Rattle.base_language.specs.declared.grammar.Rule.TheVariants.{grammar_rules}
use Rattle.front_syntax.specs.declared.events.TokenEvent.{TokenEvent}
use Rattle.front_syntax.specs.declared.events.TokenEvent.TheVariants.{End}
use Rattle.front_syntax.specs.Parses.{AreTokensOf}
use Rattle.format_grammar.specs.Reading.{SameRules}
use Rattle.format_grammar.specs.Tokens.{tokens_after, comments_after, has_clean_lines}
use Rattle.format_grammar.specs.declared.Formatted.{Formatted}
use Rattle.format_grammar.specs.declared.LineEnds.{LineEnds}
use Rattle.format_grammar.specs.declared.LineEnds.TheVariants.{LineFeed}
use Rattle.format_grammar.specs.declared.Formatted.TheVariants as answer

-- the position before the first token
abbrev pub start : TokenEvent
start = End 0 0

-- these are the tokens of a grammar's text
abbrev pub AreTokens : List ℕ → List TokenEvent → Type 0
AreTokens text events = AreTokensOf grammar_rules text events

-- two texts have equal tokens, those without children with equal texts
abbrev pub SameTokens : List ℕ → List TokenEvent → List ℕ → List TokenEvent → Type 0
SameTokens text events other others = tokens_after text start events ≡ tokens_after other start others

-- two texts have equal comments between every two tokens, infix operators left out
abbrev pub SameComments : List ℕ → List TokenEvent → List ℕ → List TokenEvent → Type 0
SameComments text events other others =
    comments_after text [] start events ≡ comments_after other [] start others

-- the last line of a text ends with a line feed, and is not empty
abbrev pub HasLastLine : List ℕ → Type 0
HasLastLine text = (2 ≤ length text) × (slice_index text (length text - 1) ≡ 10)
    × (slice_index text (length text - 2) ≢ 10)

-- a text is empty, or ends with one line feed
abbrev pub EndsOnce : List ℕ → Type 0
EndsOnce text = (text ≡ []) ⊎ HasLastLine text

-- the text of a grammar, and its formatted one
pub record IsFormatted (line_ends : LineEnds) (text formatted : List ℕ) : Type 0 where
  pub events : List TokenEvent
  pub others : List TokenEvent
  pub of_text : AreTokens text events
  pub of_formatted : AreTokens formatted others
  pub tokens : SameTokens text events formatted others
  pub comments : SameComments text events formatted others
  pub lines : line_ends ≡ LineFeed → has_clean_lines formatted start others ≡ true
  pub last_line : EndsOnce formatted
  pub rules : SameRules text formatted

-- the answer is the formatted text of a grammar, or the text is a grammar's and stays unchanged
abbrev pub IsAnswer : LineEnds → List ℕ → Formatted → Type 0
IsAnswer line_ends text (answer.Text formatted) = IsFormatted line_ends text (string_bytes formatted)
IsAnswer line_ends text answer.Unchanged = (events : List TokenEvent) × AreTokens text events

-- The outcome of formatting a text.
use Rattle.std.specs.Prelude.{◌≢◌, ℕ, List}
use Rattle.std.specs.String.{string_bytes}
use Rattle.base_language.specs.declared.grammar.Rule.TheVariants.{grammar_rules}
use Rattle.base_language.specs.declared.runtime.faults.Fault.TheVariants.{Grammar}
use Rattle.format_grammar.specs.Formatting.{AreTokens, IsFormatted}
use Rattle.format_grammar.specs.declared.LineEnds.{LineEnds}
use Rattle.front_syntax.specs.Parses.{ParseRefuses}
use Rattle.front_syntax.specs.declared.events.TokenEvent.{TokenEvent}
use Rattle.pest_fmt.specs.declared.outcomes.FileChange.{FileChange}
use Rattle.pest_fmt.specs.declared.outcomes.FileChange.TheVariants as is

-- the text is formatted, it has another formatted text, it is refused, or it is a grammar's and stays so
abbrev pub IsFileChange : LineEnds → List ℕ → FileChange → Type 0
IsFileChange line_ends text is.Same = IsFormatted line_ends text text
IsFileChange line_ends text (is.Changed formatted) =
    IsFormatted line_ends text (string_bytes formatted) × (string_bytes formatted ≢ text)
IsFileChange line_ends text (is.Refused errors) = ParseRefuses grammar_rules text (Grammar errors)
IsFileChange line_ends text is.LeftAlone = (events : List TokenEvent) × AreTokens text events

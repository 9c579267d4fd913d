-- The texts that the program gives out.
use Rattle.std.specs.Prelude.{◌≡◌, ◌≢◌, ◌≤◌, ℕ, List, Option, ⊤}
use Rattle.std.specs.Io.KnownBytes.{Appends}
use Rattle.std.specs.String.{string_bytes}
use Rattle.format_grammar.specs.Formatting.{IsFormatted}
use Rattle.format_grammar.specs.declared.LineEnds.{LineEnds}
use Rattle.pest_fmt.specs.declared.arguments.Target.{Target}
use Rattle.pest_fmt.specs.declared.arguments.Target.TheVariants.{File}
use Rattle.pest_fmt.specs.declared.processing.Processed.{Processed}
use Rattle.pest_fmt.specs.declared.processing.Processed.TheVariants.{Ended, Replacement}
use Rattle.program_support.specs.Statuses.{status_code}
use Rattle.program_support.specs.declared.status.Status.{Status}

-- the contents of a writer grew by a formatted text
pub record PrintsFormatted (line_ends : LineEnds) (text : List ℕ) (old new : Option (List ℕ)) : Type 0 where
  pub formatted : List ℕ
  pub is_formatted : IsFormatted line_ends text formatted
  pub gained : Appends old new formatted

-- a text replaces that of a file only if this is asked for, and it is the formatted one
abbrev pub IsReplacement : LineEnds → Target → List ℕ → Processed → Type 0
IsReplacement line_ends target text (Ended status) = ⊤
IsReplacement line_ends target text (Replacement formatted) =
    (target ≡ File) × IsFormatted line_ends text (string_bytes formatted)

-- the program was not stopped, and did not run out of memory
abbrev pub IsKnown : Status → Type 0
IsKnown status = (status_code status ≤ 4) × (status_code status ≢ 2)

abbrev pub IsKnownEnd : Processed → Type 0
IsKnownEnd (Ended status) = IsKnown status
IsKnownEnd (Replacement formatted) = ⊤

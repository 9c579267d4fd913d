-- Files of compiled grammars, and the ends of their runs.
use Rattle.std.specs.Prelude.{ℕ, Bool, List, ◌++◌, ◌||◌, ◌&&◌, ◌==◌, Option, Result, codes, get_or, if◌then◌else◌, nat_eq, not}
use Rattle.std.specs.List.{ends_with, starts_with}
use Rattle.base_language.specs.Language.Expression.{Grammar}
use Rattle.matcher_engine.specs.Blocks.{head, mark}
use Rattle.program_support.specs.Escapes.{escaped_bytes}
use Rattle.pest_run.specs.Ends.{EndsAs}
use Rattle.pest_run.specs.Outcomes.{IsOutcome}
use Rattle.pest_run.specs.declared.arguments.Format.{Format}
use Rattle.pest_run.specs.declared.arguments.Limits.{Limits}
use Rattle.pest_run.specs.declared.outcomes.Outcome.{Outcome}

-- bytes begin with `pest` and a version below 2^24
abbrev pub begins_as_code : List ℕ → Bool
begins_as_code bytes = starts_with nat_eq bytes (codes "pest") && get_or bytes 7 1 == 0

-- a file's name ends with `.code`, or its bytes begin so
abbrev pub is_code : List ℕ → List ℕ → Bool
is_code name bytes = ends_with nat_eq name (codes ".code") || begins_as_code bytes

-- why bytes are not run as a compiled grammar: they begin otherwise, or as another version, or else they were
-- changed
abbrev pub why_refused : List ℕ → List ℕ
why_refused bytes =
    if not (starts_with nat_eq bytes mark) then codes "it is no compiled grammar"
    else if not (starts_with nat_eq bytes head)
    then codes "it was compiled by another version: compile the grammar again"
    else codes "it was changed after it was compiled: compile the grammar again"

-- that a file is not run as a compiled grammar, and why
abbrev pub code_text : List ℕ → List ℕ → List ℕ
code_text name bytes = codes "cannot run " ++ escaped_bytes name ++ codes ": " ++ why_refused bytes

-- a run ends with the outcome of the rule of a grammar on the text of a file
pub record EndsAsRules {X E : Type 0} (g : Grammar) (rule name text : List ℕ) (format : Format)
    (limits : Limits) (same : Type 0) (status : ℕ) (told : Result X E)
    (old_out new_out old new : Option (List ℕ)) : Type 0 where
  pub outcome : Outcome
  pub is : IsOutcome g rule name text format limits outcome
  pub ends : EndsAs outcome same status told old_out new_out old new

-- The status and the texts with which a run ends.
use Rattle.std.specs.Prelude.{◌≡◌, ◌⊎◌, ℕ, List, Option, Result, codes, option_map, string_bytes}
use Rattle.std.specs.Io.KnownBytes.{Appends}
use Rattle.pest_run.specs.Written.{WritesLine, WritesNote}
use Rattle.pest_run.specs.declared.outcomes.Outcome.{Outcome}
use Rattle.pest_run.specs.declared.outcomes.Outcome.TheVariants as is

-- a status of a run whose files could be read
abbrev pub IsStatus : ℕ → Type 0
IsStatus status = (status ≡ 0) ⊎ (status ≡ 1) ⊎ (status ≡ 2) ⊎ (status ≡ 4) ⊎ (status ≡ 5)

-- 0 if the lines are written and the note, if there is one, 1 if the reason is reported, 2 after an
-- allocation failure, and 5 if the run is stopped and the reason reported
abbrev pub EndsAs : {X E : Type 0} → Outcome → Type 0 → ℕ → Result X E
    → Option (List ℕ) → Option (List ℕ) → Option (List ℕ) → Option (List ℕ) → Type 0
EndsAs (is.Shown lines note) same status told old_out new_out old new =
    ((status ≡ 0) ⊎ (status ≡ 4)) × (status ≡ 0 → Appends old_out new_out (string_bytes lines))
    × (status ≡ 0 → WritesNote (option_map string_bytes note) same told old new)
EndsAs (is.Failed report) same status told old_out new_out old new =
    (status ≡ 1) × WritesLine (string_bytes report) told old new
EndsAs (is.Unnamed report) same status told old_out new_out old new =
    (status ≡ 1) × WritesLine (string_bytes report) told old new
EndsAs (is.NoRule message) same status told old_out new_out old new =
    (status ≡ 1) × WritesLine (string_bytes message) told old new
EndsAs (is.OutOfSteps message) same status told old_out new_out old new =
    (status ≡ 5) × WritesLine (string_bytes message) told old new
EndsAs is.EmptyStack same status told old_out new_out old new =
    (status ≡ 5) × WritesLine (codes "PEEK or POP found nothing on the stack") told old new
EndsAs is.LongText same status told old_out new_out old new =
    (status ≡ 5) × WritesLine (codes "the text has 4 GiB or more") told old new
EndsAs is.UnknownName same status told old_out new_out old new =
    (status ≡ 5) × WritesLine (codes "the grammar calls a rule that is not known") told old new
EndsAs is.Bound same status told old_out new_out old new =
    (status ≡ 5) × WritesLine (codes "a range of the grammar has a bound that is no character") told old new
EndsAs is.Memory same status told old_out new_out old new = status ≡ 2

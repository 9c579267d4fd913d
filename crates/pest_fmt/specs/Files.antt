-- The statuses of the files of a command line.
use Rattle.std.specs.Prelude.{◌≡◌, ◌≢◌, ◌⊎◌, ℕ, List, [], ◌∷◌, ◌++◌, IsUtf8, String, codes, max, string_bytes}
use Rattle.std.specs.declared.alloc.Global.{Global}
use Rattle.format_grammar.specs.Formatting.{IsFormatted}
use Rattle.format_grammar.specs.declared.LineEnds.{LineEnds}
use Rattle.pest_fmt.specs.Processing.{IsReplacement}
use Rattle.pest_fmt.specs.declared.arguments.Target.{Target}
use Rattle.pest_fmt.specs.declared.arguments.Target.TheVariants.{File, Output}
use Rattle.pest_fmt.specs.declared.processing.Processed.{Processed}
use Rattle.pest_fmt.specs.declared.processing.Processed.TheVariants.{Ended, Replacement}
use Rattle.program_support.specs.Statuses.{status_code}
use Rattle.program_support.specs.declared.status.Status.{Status}
use Rattle.program_support.specs.declared.status.Status.TheVariants.{Done, Unreadable, Unwritable}

-- a status that follows from the end of the work on a text: the file is replaced, or can't be
abbrev pub IsStatusOf : Processed → Status → Type 0
IsStatusOf (Ended ended) status = status ≡ ended
IsStatusOf (Replacement formatted) status = (status ≡ Done) ⊎ (status ≡ Unwritable)

-- the work on a text, and the status of its file: a text that is neither printed nor replaced is formatted,
-- and only its formatted one replaces it
pub record IsWorkedOn (line_ends : LineEnds) (target : Target) (status : Status) : Type 0 where
  pub text : List ℕ
  pub is_text : IsUtf8 text
  pub end_ : Processed
  pub kept : target ≢ Output → end_ ≡ Ended Done → IsFormatted line_ends text text
  pub replaced : IsReplacement line_ends target text end_
  pub is_status : IsStatusOf end_ status

-- the status of a file that can't be read or is not UTF-8, or whose text was worked on
abbrev pub IsOfFile : LineEnds → Target → Status → Type 0
IsOfFile line_ends target status = (status ≡ Unreadable) ⊎ IsWorkedOn line_ends target status

-- the target for the file of a name: standard input goes to standard output
pub record IsTargetFor (asked : Target) (name : List ℕ) (target : Target) : Type 0 where
  pub input : name ≡ codes "-" → asked ≡ File → target ≡ Output
  pub file : name ≢ codes "-" → target ≡ asked
  pub other : asked ≢ File → target ≡ asked

abbrev pub IsOfName : LineEnds → Target → List ℕ → Status → Type 0
IsOfName line_ends asked name status =
    (target : Target) × IsTargetFor asked name target × IsOfFile line_ends target status

-- the status of the files of these names, in order: the highest of theirs
pub data AreOfNames (line_ends : LineEnds) (asked : Target) : List (String Global) → Status → Type 0 where
  none : AreOfNames line_ends asked [] Done
  more : {names : List (String Global)} {so_far : Status} (name : String Global) (one status : Status)
      → AreOfNames line_ends asked names so_far → IsOfName line_ends asked (string_bytes name) one
      → status_code status ≡ max (status_code so_far) (status_code one)
      → AreOfNames line_ends asked (names ++ name ∷ []) status

-- the status of all files, or of those up to one that can't be written
pub record IsOfRun (line_ends : LineEnds) (asked : Target) (names : List (String Global)) (status : Status)
    : Type 0 where
  pub done : List (String Global)
  pub left : List (String Global)
  pub whole : names ≡ done ++ left
  pub are : AreOfNames line_ends asked done status
  pub ended : (left ≡ []) ⊎ (status_code status ≡ 4)

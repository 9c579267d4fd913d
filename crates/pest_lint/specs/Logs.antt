-- The log that the program writes of files.
use Rattle.std.specs.Prelude.{◌≡◌, ℕ, List, [], ◌∷◌, ◌++◌, Option, map, max, string_bytes}
use Rattle.std.specs.List.{AllZip}
use Rattle.std.specs.Io.KnownBytes.{Appends}
use Rattle.serde_json.specs.Data.{Data, Items}
use Rattle.serde_json.specs.View.{items_of}
use Rattle.lint_findings.specs.declared.diagnostic.Diagnostic.{Diagnostic}
use Rattle.lint_output.specs.Json.{json_line}
use Rattle.lint_output.specs.Sarif.{IsRule, log_data, result_data}
use Rattle.lint_findings.specs.Codes.{all_codes}
use Rattle.lint_findings.specs.declared.codes.Code.{Code}
use Rattle.pest_lint.specs.Shows.{AreShown, Asked, GainsWithEnd, IsReadable, status_of}
use Rattle.pest_lint.specs.declared.arguments.Format.{Format}
use Rattle.pest_lint.specs.declared.arguments.Format.TheVariants as format
use Rattle.pest_lint.specs.declared.lint.Source.{Source}

-- the results of a file's diagnostics
abbrev pub results_of : Source → List Diagnostic → List Data
results_of source diagnostics = map (result_data (string_bytes source.name) source.bytes.items) diagnostics

-- of a file: nothing is logged of one that can't be read or is not UTF-8 (3)
pub data Logs (asked : Asked) (source : Source) : List Data → ℕ → Type 0 where
  unread : (IsReadable source → ⊥) → Logs asked source [] 3
  read : (diagnostics : List Diagnostic) → IsReadable source
      → AreShown asked source.bytes.items diagnostics
      → Logs asked source (results_of source diagnostics) (status_of asked diagnostics)

-- the results that are logged of a file, and its status
pub record Part : Type 0 where
  pub results : List Data
  pub status : ℕ

abbrev pub all_results : List Part → List Data
all_results [] = []
all_results (part ∷ parts) = part.results ++ all_results parts

abbrev pub highest_part : List Part → ℕ
highest_part [] = 0
highest_part (part ∷ parts) = max part.status (highest_part parts)

-- these are the results of each file, in order, and the status is the highest of theirs
pub record AreLogged (asked : Asked) (sources : List Source) (status : ℕ) (results : List Data) : Type 0 where
  pub parts : List Part
  pub each : AllZip (λ source part. Logs asked source part.results part.status) sources parts
  pub whole : status ≡ highest_part parts
  pub in_order : results ≡ all_results parts

-- these are the rules of codes, with their pages
abbrev pub AreRules : List Code → List Data → Type 0
AreRules codes rules = AllZip (λ code rule. (page : List ℕ) × IsRule code page rule) codes rules

-- a writer gained a log with the rules of all codes, and these results
pub record GainsRules (results : Items) (old new : Option (List ℕ)) : Type 0 where
  pub rules : List Data
  pub pages : AreRules all_codes rules
  pub gained : Appends old new (json_line (log_data (items_of rules) results))

-- a writer gained a log with the results of each file
pub record GainsLog (asked : Asked) (sources : List Source) (status : ℕ) (old new : Option (List ℕ))
    : Type 0 where
  pub results : List Data
  pub logged : AreLogged asked sources status results
  pub gained : GainsRules (items_of results) old new

-- a writer gained all of that
abbrev pub GainsIn : Format → Asked → List Source → ℕ → Option (List ℕ) → Option (List ℕ) → Type 0
GainsIn (format.Stream style) asked sources status old new =
    GainsWithEnd asked style sources status old new
GainsIn format.Log asked sources status old new = GainsLog asked sources status old new

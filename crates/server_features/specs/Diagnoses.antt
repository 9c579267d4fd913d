-- The diagnoses of documents.
use Rattle.std.specs.Prelude.{◌≡◌, ℕ, Bool, List, Option, Some, None, bytes_eq, option_and_then, string_bytes, if◌then◌else◌}
use Rattle.std.specs.BTreeMap.{get_by_text}
use Rattle.std.specs.List.{list_any}
use Rattle.std.specs.Option.{option_or}
use Rattle.lint_findings.specs.Reports.{is_error}
use Rattle.server_features.specs.declared.diagnoses.Diagnoses.{Diagnoses}
use Rattle.server_features.specs.declared.diagnoses.Diagnosis.{Diagnosis}

-- whether a diagnosis refuses its text
abbrev pub is_refused : Diagnosis → Bool
is_refused diagnosis = list_any is_error diagnosis.diagnostics.items

-- of the document of a URI: the diagnosis of the last accepted text, and that of a text refused since
abbrev pub accepted_in : Diagnoses → List ℕ → Option Diagnosis
accepted_in diagnoses uri = get_by_text diagnoses.accepted uri

abbrev pub refused_in : Diagnoses → List ℕ → Option Diagnosis
refused_in diagnoses uri = get_by_text diagnoses.refused uri

-- a diagnosis, if it is of this text
abbrev pub if_of : List ℕ → Diagnosis → Option Diagnosis
if_of text diagnosis = if bytes_eq (string_bytes diagnosis.text) text then Some diagnosis else None

-- the diagnosis of a document that has this text
abbrev pub diagnosis_of : Diagnoses → List ℕ → List ℕ → Option Diagnosis
diagnosis_of diagnoses uri text = option_or (option_and_then (if_of text) (refused_in diagnoses uri))
    (option_and_then (if_of text) (accepted_in diagnoses uri))

-- the diagnosis of the last accepted text, after another diagnosis
abbrev pub last_accepted : Diagnosis → Option Diagnosis → Option Diagnosis
last_accepted diagnosis before = if is_refused diagnosis then before else Some diagnosis

-- the documents have the same diagnoses
pub record IsUnchanged (old new : Diagnoses) : Type 0 where
  pub accepted : (uri : List ℕ) → accepted_in new uri ≡ accepted_in old uri
  pub refused : (uri : List ℕ) → refused_in new uri ≡ refused_in old uri

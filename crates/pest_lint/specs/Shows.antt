-- The bytes that the program writes of files, and its status.
use Rattle.std.specs.Prelude.{◌≡◌, ℕ, List, [], ◌∷◌, ◌++◌, Bool, ◌||◌, None, Option, IsUtf8, bytes_eq, filter, if◌then◌else◌, max, not, string_bytes, ⊤}
use Rattle.std.specs.List.{AllZip, list_any}
use Rattle.std.specs.Io.KnownBytes.{Appends}
use Rattle.lint_findings.specs.Codes.{code_name}
use Rattle.lint_findings.specs.Reports.{is_error}
use Rattle.lint_findings.specs.declared.codes.Code.{Code}
use Rattle.lint_findings.specs.declared.diagnostic.Diagnostic.{Diagnostic}
use Rattle.lint_output.specs.Prints.{IsExact}
use Rattle.lint_output.specs.declared.Style.{Style}
use Rattle.lint_output.specs.declared.Style.TheVariants as style
use Rattle.base_language.specs.Language.Text.{Text}
use Rattle.lint_diagnostics.specs.Diagnosis.{IsDiagnosisWith}
use Rattle.lint_warnings.specs.Lists.{texts_of}
use Rattle.pest_lint.specs.declared.arguments.Settings.{Settings}
use Rattle.pest_lint.specs.declared.lint.Source.{Source}
use Rattle.pest_meta.specs.Spelling.{HasAnswer}

-- the request: rules that are starts, all warnings or not, whether warnings count, codes whose warnings are
-- not reported, and codes whose warnings count
pub record Asked : Type 0 where
  pub starts : List Text
  pub all : Bool
  pub deny : Bool
  pub allowed : List Code
  pub denied : List Code

abbrev pub asked_of : Settings → Asked
asked_of settings = record {
  starts = texts_of settings.starts.now;
  all = settings.warn_all;
  deny = settings.deny_warnings;
  allowed = settings.allowed.now;
  denied = settings.denied.now;
}

-- the file could be read, and is text
abbrev pub IsReadable : Source → Type 0
IsReadable source = (source.why ≡ None) × IsUtf8 source.bytes.items

-- the file could be read, and its text is accepted
abbrev pub IsClean : Source → Type 0
IsClean source = (source.why ≡ None) × HasAnswer source.bytes.items

abbrev pub has_code : Diagnostic → Code → Bool
has_code d c = bytes_eq (code_name c) (code_name d.code)

-- its code is one of these
abbrev pub has_one_of : List Code → Diagnostic → Bool
has_one_of codes d = list_any (has_code d) codes

-- it is an error, or its code is not allowed
abbrev pub is_shown : Asked → Diagnostic → Bool
is_shown asked d = is_error d || not (has_one_of asked.allowed d)

-- the diagnostics of a text, without those whose code is allowed
pub record AreShown (asked : Asked) (text : List ℕ) (diagnostics : List Diagnostic) : Type 0 where
  pub whole : List Diagnostic
  pub diagnosis : IsDiagnosisWith asked.all asked.starts text whole
  pub shown : diagnostics ≡ filter (is_shown asked) whole

-- it is an error, or warnings or its code are denied
abbrev pub counts : Asked → Diagnostic → Bool
counts asked d = asked.deny || (is_error d || has_one_of asked.denied d)

-- 1 if one of them counts
abbrev pub status_of : Asked → List Diagnostic → ℕ
status_of asked diagnostics = if list_any (counts asked) diagnostics then 1 else 0

-- all of these, one after another
abbrev pub joined : List (List ℕ) → List ℕ
joined [] = []
joined (text ∷ texts) = text ++ joined texts

-- all diagnostics of the text of a file of this name are printed, in order
abbrev pub ArePrinted : Style → List ℕ → List ℕ → List Diagnostic → List ℕ → Type 0
ArePrinted style name text diagnostics bytes = (texts : List (List ℕ))
    × AllZip (IsExact style name text) diagnostics texts × (bytes ≡ joined texts)

-- a text's diagnostics are written, and the status is theirs
pub record ShowsText (asked : Asked) (style : Style) (name text bytes : List ℕ) (status : ℕ) : Type 0 where
  pub diagnostics : List Diagnostic
  pub diagnosis : AreShown asked text diagnostics
  pub printed : ArePrinted style name text diagnostics bytes
  pub whole : status ≡ status_of asked diagnostics

-- of a file: nothing is written of one that can't be read or is not UTF-8 (3)
pub data Shows (asked : Asked) (style : Style) (source : Source) : List ℕ → ℕ → Type 0 where
  unread : (IsReadable source → ⊥) → Shows asked style source [] 3
  read : (bytes : List ℕ) (status : ℕ) → IsReadable source
      → ShowsText asked style (string_bytes source.name) source.bytes.items bytes status
      → Shows asked style source bytes status

-- a writer gained what is shown of a file
abbrev pub Gains : Asked → Style → Source → ℕ → Option (List ℕ) → Option (List ℕ) → Type 0
Gains asked style source status old new =
    (bytes : List ℕ) × Shows asked style source bytes status × Appends old new bytes

-- the bytes that were written of a file, and its status
pub record Look : Type 0 where
  pub bytes : List ℕ
  pub status : ℕ

abbrev pub bytes_of : List Look → List ℕ
bytes_of [] = []
bytes_of (look ∷ looks) = look.bytes ++ bytes_of looks

abbrev pub highest : List Look → ℕ
highest [] = 0
highest (look ∷ looks) = max look.status (highest looks)

-- a writer gained what is shown of each file, in order, and the status is the highest of theirs
pub record GainsAll (asked : Asked) (style : Style) (sources : List Source) (status : ℕ)
    (old new : Option (List ℕ)) : Type 0 where
  pub looks : List Look
  pub each : AllZip (λ source look. Shows asked style source look.bytes look.status) sources looks
  pub whole : status ≡ highest looks
  pub gained : Appends old new (bytes_of looks)

-- JSON and annotations have nothing at their end; the end of text is tested by examples/lint
abbrev pub IsEnd : Style → List ℕ → Type 0
IsEnd style.Json end = end ≡ []
IsEnd style.Github end = end ≡ []
IsEnd (style.Text coloured) end = ⊤

-- a writer gained what is shown of each file, and an end
pub record GainsWithEnd (asked : Asked) (style : Style) (sources : List Source) (status : ℕ)
    (old new : Option (List ℕ)) : Type 0 where
  pub between : Option (List ℕ)
  pub shown : GainsAll asked style sources status old between
  pub end : List ℕ
  pub ends : IsEnd style end
  pub gained : Appends between new end

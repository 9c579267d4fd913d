-- Diagnostics as JSON.
use Rattle.std.specs.List.{list_any}
use Rattle.std.specs.Prelude.{◌≡◌, ◌⊎◌, ℕ, ℤ, List, [], ◌++◌, All, Bool, true, false, Option, Some, None, codes, map, string_bytes}
use Rattle.lint_findings.specs.Codes.{code_name}
use Rattle.lint_findings.specs.Reports.{is_error}
use Rattle.lint_findings.specs.declared.codes.Code.{Code}
use Rattle.lint_findings.specs.declared.codes.Code.TheVariants as code
use Rattle.lint_findings.specs.declared.codes.Severity.{Severity}
use Rattle.lint_findings.specs.declared.codes.Severity.TheVariants as severity
use Rattle.lint_findings.specs.declared.diagnostic.Diagnostic.{Diagnostic}
use Rattle.lint_diagnostics.specs.Diagnosis.{IsDiagnosis}
use Rattle.lint_hints.specs.declared.help.Help.{Help}
use Rattle.lint_hints.specs.declared.help.Related.{Related}
use Rattle.server_features.specs.Earlier.{StaysAmong}
use Rattle.server_features.specs.declared.diagnoses.Diagnosis.{Diagnosis}
use Rattle.server_protocol.specs.declared.positions.Encoding.{Encoding}
use Rattle.server_protocol.specs.Messages.{IsMessage, notification_data}
use Rattle.server_protocol.specs.Values.{location_data, range_data}
use Rattle.server_protocol.specs.declared.client.Client.{Client}
use Rattle.server_protocol.specs.declared.documents.Document.{Document}
use Rattle.server_symbols.specs.declared.tokens.Extent.{Extent}
use Rattle.serde_json.specs.Data.{Data, Members, number, unsigned, string, array, object, no_members, member}
use Rattle.serde_json.specs.Find.{of_integer}
use Rattle.serde_json.specs.View.{items_of}

-- the protocol's number of a severity
abbrev pub severity_number : Severity → ℕ
severity_number severity.Error = 1
severity_number severity.Warning = 2

-- whether the help for a code is of use in an editor: that for an uncalled rule names an option of pest-lint
abbrev pub has_help : Code → Bool
has_help code.UncalledRule = false
has_help _ = true

-- a help in a line of its own
abbrev pub help_line : Bool → Option Help → List ℕ
help_line false help = []
help_line true None = []
help_line true (Some help) = codes "\n" ++ string_bytes help.message

-- the message of a diagnostic, with its help
abbrev pub message_of : Diagnostic → List ℕ
message_of diagnostic =
    string_bytes diagnostic.message ++ help_line (has_help diagnostic.code) diagnostic.help

abbrev pub extent_of : ℕ → ℕ → Extent
extent_of start end = record { start = start; end = end }

-- a part of the text that matters to a diagnostic
abbrev pub related_data : Encoding → List ℕ → List ℕ → Related → Data
related_data encoding text uri part =
    object (member (codes "location") (location_data uri encoding text (extent_of part.start part.end))
    (member (codes "message") (string (string_bytes part.message)) no_members))

-- the members of a diagnostic before some, and those after them
abbrev pub first_members : Encoding → List ℕ → Diagnostic → Members → Members
first_members encoding text diagnostic others =
    member (codes "code") (string (code_name diagnostic.code))
    (member (codes "message") (string (message_of diagnostic))
    (member (codes "range") (range_data encoding text (extent_of diagnostic.start diagnostic.end)) others))

abbrev pub last_members : Diagnostic → Members
last_members diagnostic =
    member (codes "severity") (number (unsigned (severity_number diagnostic.severity)))
    (member (codes "source") (string (codes "pest")) no_members)

-- a diagnostic of a text
abbrev pub plain_data : Encoding → List ℕ → Diagnostic → Data
plain_data encoding text diagnostic =
    object (first_members encoding text diagnostic (last_members diagnostic))

-- a diagnostic of a text, whose document has this URI, with other parts of the text if these are asked
-- for
abbrev pub diagnostic_data : Bool → Encoding → List ℕ → List ℕ → Diagnostic → Data
diagnostic_data false encoding text uri diagnostic = plain_data encoding text diagnostic
diagnostic_data true encoding text uri diagnostic = object (first_members encoding text diagnostic
    (member (codes "relatedInformation")
    (array (items_of (map (related_data encoding text uri) diagnostic.related.items)))
    (last_members diagnostic)))

-- the parameters that publish diagnostics
abbrev pub publication_data : List ℕ → Option ℤ → Data → Data
publication_data uri None diagnostics =
    object (member (codes "diagnostics") diagnostics (member (codes "uri") (string uri) no_members))
publication_data uri (Some version) diagnostics = object (member (codes "diagnostics") diagnostics
    (member (codes "uri") (string uri) (member (codes "version") (number (of_integer version)) no_members)))

-- a message publishes diagnostics
abbrev pub IsPublication : List ℕ → Option ℤ → Data → List ℕ → Type 0
IsPublication uri version diagnostics body = IsMessage (notification_data
    (codes "textDocument/publishDiagnostics") (publication_data uri version diagnostics)) body

-- warnings of an earlier text stay in a text that is refused with these diagnostics
pub record AreStaying (earlier : Diagnosis) (text : List ℕ) (diagnostics others : List Diagnostic)
    : Type 0 where
  pub refused : list_any is_error diagnostics ≡ true
  pub stay : All (StaysAmong (string_bytes earlier.text) text earlier.diagnostics.items) others

-- the diagnostics that are published beside those of a text: such warnings, or none
abbrev pub AreOthers : Option Diagnosis → List ℕ → List Diagnostic → List Diagnostic → Type 0
AreOthers None text diagnostics others = others ≡ []
AreOthers (Some earlier) text diagnostics others =
    (others ≡ []) ⊎ AreStaying earlier text diagnostics others

-- a message publishes the diagnostics of a document's text, each once and in their order, and with errors
-- warnings of an earlier text that stay; with related information if the client has that
pub record Publishes (client : Client) (earlier : Option Diagnosis) (uri : List ℕ) (document : Document)
    (body : List ℕ) : Type 0 where
  pub diagnostics : List Diagnostic
  pub others : List Diagnostic
  pub of_text : ∥ IsDiagnosis [] (string_bytes document.text) diagnostics ∥₁
  pub are_others : AreOthers earlier (string_bytes document.text) diagnostics others
  pub message : IsPublication uri document.version (array (items_of
      (map (diagnostic_data client.has_related client.encoding (string_bytes document.text) uri)
      (diagnostics ++ others)))) body

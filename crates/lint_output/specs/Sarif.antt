-- Logs of SARIF 2.1.0 as JSON values.
use Rattle.std.specs.Prelude.{◌≡◌, ℕ, List, None, Option, Some, codes, string_bytes}
use Rattle.serde_json.specs.Data.{Data, Items, array, item, member, no_items, no_members, number, object, string, unsigned}
use Rattle.lint_findings.specs.Codes.{code_name, severity_name, severity_of}
use Rattle.lint_findings.specs.declared.codes.Code.{Code}
use Rattle.lint_findings.specs.declared.diagnostic.Diagnostic.{Diagnostic}
use Rattle.lint_hints.specs.declared.help.Fix.{Fix}
use Rattle.lint_hints.specs.declared.help.Help.{Help}
use Rattle.lint_output.specs.Annotations.{with_help}
use Rattle.lint_output.specs.Locations.{location_at}
use Rattle.lint_output.specs.declared.lines.Location.{Location}

abbrev pub size_data : ℕ → Data
size_data n = number (unsigned n)

abbrev pub list_data : Data → Data
list_data d = array (item d no_items)

-- the region between two locations, of which the first is this byte
abbrev pub region_data : ℕ → Location → Location → Data
region_data start first last = object
    (member (codes "byteOffset") (size_data start)
    (member (codes "endColumn") (size_data last.column)
    (member (codes "endLine") (size_data last.line)
    (member (codes "startColumn") (size_data first.column)
    (member (codes "startLine") (size_data first.line) no_members)))))

-- that region of a file
abbrev pub place_data : List ℕ → ℕ → Location → Location → Data
place_data name start first last = object
    (member (codes "artifactLocation") (object (member (codes "uri") (string name) no_members))
    (member (codes "region") (region_data start first last) no_members))

-- a text as a message, or as a part of a file
abbrev pub text_data : List ℕ → Data
text_data text = object (member (codes "text") (string text) no_members)

-- the replacement by a fix, between two locations
abbrev pub replacement_data : Fix → Location → Location → Data
replacement_data fix first last = object
    (member (codes "deletedRegion") (region_data fix.start first last)
    (member (codes "insertedContent") (text_data (string_bytes fix.replacement)) no_members))

-- the change of a file
abbrev pub change_data : List ℕ → Fix → Location → Location → Data
change_data name fix first last = object
    (member (codes "artifactLocation") (object (member (codes "uri") (string name) no_members))
    (member (codes "replacements") (list_data (replacement_data fix first last)) no_members))

-- a fix of a file, under a message, between two locations
abbrev pub file_fix_data : List ℕ → List ℕ → Fix → Location → Location → Data
file_fix_data name message fix first last = object
    (member (codes "artifactChanges") (list_data (change_data name fix first last))
    (member (codes "description") (text_data message) no_members))

-- the fixes of a file's text under a message: one, or none
abbrev pub fixes_for : List ℕ → List ℕ → List ℕ → Option Fix → Items
fixes_for name text message None = no_items
fixes_for name text message (Some fix) =
    item (file_fix_data name message fix (location_at text fix.start) (location_at text fix.end)) no_items

-- the fixes of a help
abbrev pub fixes_of : List ℕ → List ℕ → Option Help → Items
fixes_of name text None = no_items
fixes_of name text (Some help) = fixes_for name text (string_bytes help.message) help.fix

-- the region of a file, as the only location
abbrev pub locations_data : List ℕ → ℕ → Location → Location → Data
locations_data name start first last = list_data
    (object (member (codes "physicalLocation") (place_data name start first last) no_members))

-- a diagnostic between two locations, with fixes
abbrev pub located_data : List ℕ → Diagnostic → Data → Location → Location → Data
located_data name d fixes first last = object
    (member (codes "fixes") fixes
    (member (codes "level") (string (severity_name d.severity))
    (member (codes "locations") (locations_data name d.start first last)
    (member (codes "message") (text_data (with_help (string_bytes d.message) d.help))
    (member (codes "ruleId") (string (code_name d.code)) no_members)))))

-- a diagnostic of a file's text as a result
abbrev pub result_data : List ℕ → List ℕ → Diagnostic → Data
result_data name text d = located_data name d (array (fixes_of name text d.help))
    (location_at text d.start) (location_at text d.end)

-- a code as a rule, with a short description and a page
abbrev pub rule_data : Code → List ℕ → List ℕ → Data
rule_data code short page = object
    (member (codes "defaultConfiguration") (object
    (member (codes "level") (string (severity_name (severity_of code))) no_members))
    (member (codes "help") (text_data page)
    (member (codes "id") (string (code_name code))
    (member (codes "shortDescription") (text_data short) no_members))))

-- a code as a rule with its page
abbrev pub IsRule : Code → List ℕ → Data → Type 0
IsRule code page d = (short : List ℕ) × (d ≡ rule_data code short page)

-- a run of the linter with these rules and results
abbrev pub run_data : Items → Items → Data
run_data rules results = object
    (member (codes "columnKind") (string (codes "unicodeCodePoints"))
    (member (codes "results") (array results)
    (member (codes "tool") (object (member (codes "driver")
    (object (member (codes "name") (string (codes "pest-lint"))
    (member (codes "rules") (array rules) no_members)))
    no_members)) no_members)))

-- a log of that run
abbrev pub log_data : Items → Items → Data
log_data rules results = object
    (member (codes "$schema") (string (codes "https://json.schemastore.org/sarif-2.1.0.json"))
    (member (codes "runs") (list_data (run_data rules results))
    (member (codes "version") (string (codes "2.1.0")) no_members)))

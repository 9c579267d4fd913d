-- Diagnostics as JSON values.
use Rattle.std.specs.Prelude.{ℕ, List, ◌++◌, None, Option, Some, codes, map, string_bytes}
use Rattle.serde_json.specs.Data.{Data, Members, array, member, no_members, null, object, string}
use Rattle.serde_json.specs.View.{items_of}
use Rattle.serde_json.specs.Written.{compact_text}
use Rattle.lint_findings.specs.Codes.{code_name, severity_name}
use Rattle.lint_findings.specs.declared.diagnostic.Diagnostic.{Diagnostic}
use Rattle.lint_hints.specs.declared.help.Applicability.{Applicability}
use Rattle.lint_hints.specs.declared.help.Applicability.TheVariants as applicability
use Rattle.lint_hints.specs.declared.help.Fix.{Fix}
use Rattle.lint_hints.specs.declared.help.Help.{Help}
use Rattle.lint_hints.specs.declared.help.Related.{Related}
use Rattle.lint_output.specs.Locations.{location_at}
use Rattle.lint_output.specs.Sarif.{size_data}
use Rattle.lint_output.specs.declared.lines.Location.{Location}
use Rattle.program_support.specs.Escapes.{escaped_json}

-- a value as a line, with escapes of hidden characters
abbrev pub json_line : Data → List ℕ
json_line d = escaped_json (compact_text d) ++ codes "\n"

-- another part of the text that matters, at a location
abbrev pub part_data : Related → Location → Data
part_data part first = object
    (member (codes "column") (size_data first.column)
    (member (codes "end") (size_data part.end)
    (member (codes "line") (size_data first.line)
    (member (codes "message") (string (string_bytes part.message))
    (member (codes "start") (size_data part.start) no_members)))))

abbrev pub related_data : List ℕ → List Related → Data
related_data text parts = array (items_of (map (λ part. part_data part (location_at text part.start)) parts))

-- a help's message, and its fix
abbrev pub help_data : Option Help → Data
help_data None = null
help_data (Some help) = string (string_bytes help.message)

abbrev pub applicability_name : Applicability → List ℕ
applicability_name applicability.Safe = codes "safe"
applicability_name applicability.Unsafe = codes "unsafe"

abbrev pub fix_data : Option Fix → Data
fix_data None = null
fix_data (Some fix) = object
    (member (codes "applicability") (string (applicability_name fix.applicability))
    (member (codes "end") (size_data fix.end)
    (member (codes "replacement") (string (string_bytes fix.replacement))
    (member (codes "start") (size_data fix.start) no_members))))

abbrev pub mended_data : Option Help → Data
mended_data None = null
mended_data (Some help) = fix_data help.fix

-- the members of a diagnostic by their names: those from `kind` on, those from `end_line` on, and all
abbrev pub last_members : Diagnostic → Data → Location → Members
last_members d related first =
    member (codes "kind") (string (severity_name d.severity))
    (member (codes "line") (size_data first.line)
    (member (codes "message") (string (string_bytes d.message))
    (member (codes "related") related
    (member (codes "start") (size_data d.start) no_members))))

abbrev pub later_members : List ℕ → Diagnostic → Data → Location → Location → Members
later_members name d related first last =
    member (codes "end_line") (size_data last.line)
    (member (codes "expected") (array (items_of (map (λ name. string name.now) d.expected.items)))
    (member (codes "file") (string name)
    (member (codes "fix") (mended_data d.help)
    (member (codes "help") (help_data d.help) (last_members d related first)))))

-- a diagnostic between two locations, with the other parts that matter
abbrev pub located_line : List ℕ → Diagnostic → Data → Location → Location → Data
located_line name d related first last = object
    (member (codes "code") (string (code_name d.code))
    (member (codes "column") (size_data first.column)
    (member (codes "end") (size_data d.end)
    (member (codes "end_column") (size_data last.column) (later_members name d related first last)))))

-- a diagnostic of a file's text
abbrev pub line_data : List ℕ → List ℕ → Diagnostic → Data
line_data name text d = located_line name d (related_data text d.related.items)
    (location_at text d.start) (location_at text d.end)

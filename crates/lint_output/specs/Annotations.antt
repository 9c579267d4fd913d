-- Workflow commands of GitHub.
use Rattle.std.specs.Prelude.{ℕ, List, ◌++◌, ◌==◌, None, Option, Some, codes, decimal, if◌then◌else◌, string_bytes}
use Rattle.lint_findings.specs.Codes.{code_name, severity_name}
use Rattle.lint_findings.specs.declared.diagnostic.Diagnostic.{Diagnostic}
use Rattle.lint_hints.specs.declared.help.Help.{Help}
use Rattle.lint_output.specs.Locations.{location_at}
use Rattle.lint_output.specs.Visible.{shown, written_by}
use Rattle.lint_output.specs.declared.lines.Location.{Location}

-- a character of a message: a percent sign (37) by its number
abbrev pub message_part : ℕ → List ℕ
message_part c = if c == 37 then codes "%25" else shown c

-- a character of a property: a colon (58) and a comma (44), too
abbrev pub property_part : ℕ → List ℕ
property_part c = if c == 58 then codes "%3A" else if c == 44 then codes "%2C" else message_part c

abbrev pub property : List ℕ → List ℕ
property text = written_by property_part text

-- a message, and that of a help
abbrev pub with_help : List ℕ → Option Help → List ℕ
with_help message None = message
with_help message (Some help) = message ++ (codes "; help: " ++ string_bytes help.message)

-- lines and columns
abbrev pub place_text : Location → Location → List ℕ
place_text first last = codes "line=" ++ (decimal first.line ++ (codes ",col=" ++ (decimal first.column
    ++ (codes ",endLine=" ++ (decimal last.line ++ (codes ",endColumn=" ++ decimal last.column))))))

-- the messages of a diagnostic and of its help
abbrev pub message_text : Diagnostic → List ℕ
message_text d = written_by message_part (with_help (string_bytes d.message) d.help)

-- a command of a diagnostic between two locations of a file
abbrev pub located_command : List ℕ → Diagnostic → Location → Location → List ℕ
located_command name d first last = codes "::" ++ (severity_name d.severity ++ (codes " file="
    ++ (property name ++ (codes "," ++ (place_text first last ++ (codes ",title="
    ++ (property (code_name d.code) ++ (codes "::" ++ (message_text d ++ codes "\n")))))))))

-- a command of a diagnostic of a file's text
abbrev pub command : List ℕ → List ℕ → Diagnostic → List ℕ
command name text d = located_command name d (location_at text d.start) (location_at text d.end)

-- The bytes by which a diagnostic is printed.
use Rattle.std.specs.Prelude.{◌≡◌, ℕ, List, ◌∷◌, ◌++◌, Bool, codes, decimal, if◌then◌else◌, string_bytes}
use Rattle.lint_findings.specs.Codes.{code_name, severity_name}
use Rattle.lint_findings.specs.declared.codes.Severity.{Severity}
use Rattle.lint_findings.specs.declared.codes.Severity.TheVariants as severity
use Rattle.lint_findings.specs.declared.diagnostic.Diagnostic.{Diagnostic}
use Rattle.lint_output.specs.Annotations.{command}
use Rattle.lint_output.specs.Json.{json_line, line_data}
use Rattle.lint_output.specs.Locations.{location_at}
use Rattle.lint_output.specs.Visible.{visible}
use Rattle.lint_output.specs.declared.Style.{Style}
use Rattle.lint_output.specs.declared.Style.TheVariants as style
use Rattle.lint_output.specs.declared.lines.Location.{Location}
use Rattle.program_support.specs.Excerpts.{margin}

-- a severity's name, in its colour if that is asked for
abbrev pub heading : Bool → Severity → List ℕ
heading colour severity.Error =
    if colour then (27 ∷ codes "[1;31merror") ++ (27 ∷ codes "[0m") else codes "error"
heading colour severity.Warning =
    if colour then (27 ∷ codes "[1;33mwarning") ++ (27 ∷ codes "[0m") else codes "warning"

-- a block of text that begins with the severity and the code
abbrev pub IsBlock : Bool → Diagnostic → List ℕ → Type 0
IsBlock colour d bytes = (rest : List ℕ)
    × (bytes ≡ heading colour d.severity
    ++ (codes "[" ++ (code_name d.code ++ (codes "]: " ++ (rest ++ codes "\n")))))

-- a file, line and column, after an arrow
abbrev pub place_line : List ℕ → Location → List ℕ
place_line name first = margin first.line ++ (codes "--> " ++ (visible name ++ (codes ":"
    ++ (decimal first.line ++ (codes ":" ++ decimal first.column)))))

-- a message, and the line of a file, line and column below it
abbrev pub top_lines : List ℕ → List ℕ → Location → List ℕ
top_lines name message first = visible message ++ (codes "\n" ++ (place_line name first ++ codes "\n"))

-- a block of a diagnostic at a location, with what is printed below that
abbrev pub block : Bool → List ℕ → Diagnostic → Location → List ℕ → List ℕ
block colour name d first rest = heading colour d.severity ++ (codes "[" ++ (code_name d.code
    ++ (codes "]: " ++ (top_lines name (string_bytes d.message) first ++ (rest ++ codes "\n")))))

-- a block with the message, and with the file, the line and the column
abbrev pub IsPlacedBlock : Bool → List ℕ → Diagnostic → Location → List ℕ → Type 0
IsPlacedBlock colour name d first bytes = (rest : List ℕ) × (bytes ≡ block colour name d first rest)

-- a line
abbrev pub IsLine : List ℕ → Type 0
IsLine bytes = (line : List ℕ) × (bytes ≡ line ++ codes "\n")

-- a workflow command of the severity
abbrev pub IsAnnotation : Diagnostic → List ℕ → Type 0
IsAnnotation d bytes = (rest : List ℕ)
    × (bytes ≡ codes "::" ++ (severity_name d.severity ++ (codes " file=" ++ (rest ++ codes "\n"))))

-- a diagnostic is printed in a style by these bytes
abbrev pub IsPrinted : Style → Diagnostic → List ℕ → Type 0
IsPrinted (style.Text colour) d bytes = IsBlock colour d bytes
IsPrinted style.Json d bytes = IsLine bytes
IsPrinted style.Github d bytes = IsAnnotation d bytes

-- a diagnostic of a file's text is printed by exactly these bytes, or by a block
abbrev pub IsExact : Style → List ℕ → List ℕ → Diagnostic → List ℕ → Type 0
IsExact (style.Text colour) name text d bytes = IsPlacedBlock colour name d (location_at text d.start) bytes
IsExact style.Json name text d bytes = bytes ≡ json_line (line_data name text d)
IsExact style.Github name text d bytes = bytes ≡ command name text d

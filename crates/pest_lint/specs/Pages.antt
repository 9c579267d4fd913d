-- The pages of codes.
use Rattle.std.specs.Prelude.{◌≡◌, ℕ, List, ◌++◌, Option, codes, true}
use Rattle.std.specs.Io.KnownBytes.{Appends}
use Rattle.lint_findings.specs.Codes.{code_name, has_name, severity_name, severity_of}
use Rattle.lint_findings.specs.declared.codes.Code.{Code}

-- the lines on a code: its name, whether it is an error, and its page, which examples/lint tests
abbrev pub page_text : Code → List ℕ → List ℕ
page_text c page = code_name c ++ (codes " (" ++ (severity_name (severity_of c) ++ (codes ")\n\n"
    ++ (page ++ codes "\n"))))

-- a writer gained the page of the code of a name
pub record Explains (name : List ℕ) (old new : Option (List ℕ)) : Type 0 where
  pub code : Code
  pub named : has_name code name ≡ true
  pub page : List ℕ
  pub gained : Appends old new (page_text code page)

-- that no code has a name
abbrev pub unknown_line : List ℕ
unknown_line = codes "unknown code; pest-lint --list shows all\n"

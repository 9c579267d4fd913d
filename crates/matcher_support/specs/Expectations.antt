-- Messages on what is expected in a text.
use Rattle.std.specs.Prelude.{ℕ, ◌==◌, Bool, List, [], ◌∷◌, ◌++◌, codes, encode_utf8_all, if◌then◌else◌, length}
use Rattle.base_language.specs.Language.Text.{Text}

-- the separator before a name that is not the first: of two in all, or of more, and the last of them or not
abbrev pub name_separator : Bool → Bool → List ℕ
name_separator of_two last = if last then (if of_two then codes " or " else codes ", or ") else codes ", "

-- the names after the first one
abbrev pub other_names : Bool → List Text → List ℕ
other_names of_two [] = []
other_names of_two (n ∷ ns) =
    name_separator of_two (length ns == 0) ++ encode_utf8_all n ++ other_names of_two ns

-- `a`, `a or b`, `a, b, or c`
abbrev pub list_text : List Text → List ℕ
list_text [] = []
list_text (n ∷ ns) = encode_utf8_all n ++ other_names (length ns == 1) ns

-- `expected a, b, or c`; and another text if nothing is expected
abbrev pub failure_message : List Text → List ℕ
failure_message [] = codes "unknown parsing error"
failure_message names = codes "expected " ++ list_text names

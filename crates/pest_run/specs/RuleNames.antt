-- Names of rules, and those that are near a name.
use Rattle.std.specs.Prelude.{ℕ, ◌/◌, Bool, true, false, List, ◌++◌, bytes_eq, codes, encode_utf8_all, filter, if◌then◌else◌, length, map, nat_le, nat_lt}
use Rattle.std.specs.Char.{to_ascii_lowercase}
use Rattle.std.specs.List.{flat_map}
use Rattle.std.specs.Str.{chars}
use Rattle.base_language.specs.Language.Expression.{Grammar}
use Rattle.base_language.specs.Language.Text.{Text}
use Rattle.strsim.specs.Edits.{osa_table}

-- the names of rules, in order
abbrev pub rule_names : Grammar → List Text
rule_names g = map (λ r. r.name) g

-- a name and a line feed
abbrev pub name_line : Text → List ℕ
name_line name = encode_utf8_all name ++ codes "\n"

-- the names of rules, a line each
abbrev pub name_lines : Grammar → List ℕ
name_lines g = flat_map name_line (rule_names g)

-- how many edits lead from one text to another, if the swap of two characters is one
abbrev pub distance : List ℕ → List ℕ → ℕ
distance name other = (osa_table (chars name) (chars other)).last_row (length (chars other))

-- the texts differ in the case of ASCII letters alone, or by edits, at most a third of the first one's bytes,
-- which are 64 at most
abbrev pub is_near : List ℕ → List ℕ → Bool
is_near name other =
    if nat_lt 64 (length name) then false
    else if bytes_eq (map to_ascii_lowercase name) (map to_ascii_lowercase other) then true
    else nat_le (distance name other) (length name / 3)

-- those of some names that are near a name, in order
abbrev pub near_among : List Text → List ℕ → List Text
near_among names name = filter (λ n. is_near name (encode_utf8_all n)) names

-- the names of rules that are near a name, in order
abbrev pub near_names : Grammar → List ℕ → List Text
near_names g name = near_among (rule_names g) name

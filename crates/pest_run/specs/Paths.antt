-- Texts of the calls that are open where rules are expected.
use Rattle.std.specs.Prelude.{ℕ, ◌-◌, Bool, false, List, [], ◌∷◌, ◌++◌, Option, None, Some, codes, drop, encode_utf8_all, if◌then◌else◌, length, map, nat_le, take}
use Rattle.std.specs.Fmt.{decimal}
use Rattle.std.specs.Global.{Vec}
use Rattle.std.specs.List.{flat_map}
use Rattle.base_language.specs.Language.Text.{Text}
use Rattle.base_language.specs.Pieces.LineColumn.{line_column}
use Rattle.matcher_code.specs.Steps.{is_same}
use Rattle.matcher_code.specs.declared.state.OpenCall.{OpenCall}
use Rattle.matcher_engine.specs.Walks.{name_in}
use Rattle.pest_run.specs.Messages.{place_text}
use Rattle.pest_run.specs.declared.arguments.Format.{Format}
use Rattle.pest_run.specs.declared.arguments.Format.TheVariants as format_is
use Rattle.program_support.specs.Escapes.{escaped_json, escaped_lines}
use Rattle.serde_json.specs.Data.{Data, array, member, no_members, number, object, string, unsigned}
use Rattle.serde_json.specs.View.{items_of}
use Rattle.serde_json.specs.Written.{compact_text}

-- the name of a rule by its number
abbrev pub rule_text : List Text → ℕ → List ℕ
rule_text names rule = encode_utf8_all (name_in names rule)

-- a call, the line and the column where it begins, and a sign that the next one is within it
abbrev pub call_text : List ℕ → List Text → OpenCall → List ℕ
call_text text names c =
    rule_text names c.rule ++ codes " " ++ place_text (line_column text c.start) ++ codes " > "

-- calls, the outermost first
abbrev pub calls_text : List ℕ → List Text → List OpenCall → List ℕ
calls_text text names cs = flat_map (call_text text names) cs

-- calls; of more than 16 the first 4, the number of those left out, and the last 12
abbrev pub open_text : List ℕ → List Text → List OpenCall → List ℕ
open_text text names cs =
    if nat_le (length cs) 16 then calls_text text names cs
    else calls_text text names (take 4 cs) ++ (codes "(" ++ decimal (length cs - 16) ++ codes " more) > ")
    ++ calls_text text names (drop (length cs - 12) cs)

-- of a path, the calls around the last one, which is that of the expected rule
abbrev pub outer : List OpenCall → List OpenCall
outer p = take (length p - 1) p

-- the number of the expected rule
abbrev pub expected_rule : List OpenCall → ℕ
expected_rule [] = 0
expected_rule (c ∷ []) = c.rule
expected_rule (c ∷ d ∷ p) = expected_rule (d ∷ p)

-- whether these calls are those around the path before
abbrev pub is_within : Option (List OpenCall) → List OpenCall → Bool
is_within None open_calls = false
is_within (Some before) open_calls = is_same before open_calls

-- a rule that is expected within some calls: on a line of its own with the calls, but after a comma if
-- the calls are those of the path before
abbrev pub path_text : List ℕ → List Text → Option (List OpenCall) → List OpenCall → ℕ → List ℕ
path_text text names before open_calls rule =
    (if is_within before open_calls then codes ", " else codes "\n  " ++ open_text text names open_calls)
    ++ rule_text names rule

-- paths after one within such calls
abbrev pub paths_text : List ℕ → List Text → Option (List OpenCall) → List (Vec OpenCall) → List ℕ
paths_text text names before [] = []
paths_text text names before (p ∷ ps) =
    path_text text names before (outer p.items) (expected_rule p.items)
    ++ paths_text text names (Some (outer p.items)) ps

-- how many paths are left out
abbrev pub more_text : ℕ → List ℕ
more_text count = if nat_le count 20 then [] else codes "\n  " ++ decimal (count - 20)
    ++ codes " more: --format json prints all"

-- the first 20 paths to a place, and how many there are more
abbrev pub paths_lines : List ℕ → List Text → ℕ → List (Vec OpenCall) → List ℕ
paths_lines text names place paths =
    codes "open calls and their starts, and the rules expected in them at "
    ++ place_text (line_column text place) ++ codes ":" ++ paths_text text names None (take 20 paths)
    ++ more_text (length paths)

-- a call, a path, and all paths to a place as data of JSON
abbrev pub call_data : List Text → OpenCall → Data
call_data names c = object
    (member (codes "rule") (string (rule_text names c.rule))
    (member (codes "start") (number (unsigned c.start)) no_members))

abbrev pub path_data : List Text → List OpenCall → Data
path_data names p = array (items_of (map (call_data names) p))

abbrev pub paths_data : List Text → ℕ → List (Vec OpenCall) → Data
paths_data names place paths = object
    (member (codes "paths") (array (items_of (map (λ p. path_data names p.items) paths)))
    (member (codes "place") (number (unsigned place)) no_members))

-- the paths to a place as they are shown, with escapes of hidden characters: all in a line of JSON, or the
-- first 20 in lines of text
abbrev pub shown_paths : Format → List ℕ → List Text → ℕ → List (Vec OpenCall) → List ℕ
shown_paths format_is.Json text names place paths =
    escaped_json (compact_text (paths_data names place paths)) ++ codes "\n"
shown_paths format_is.Text text names place paths = escaped_lines (paths_lines text names place paths)
shown_paths format_is.Lines text names place paths = escaped_lines (paths_lines text names place paths)

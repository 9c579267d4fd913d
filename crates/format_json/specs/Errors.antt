-- Errors, names and answers as JSON values.
use Rattle.std.specs.Prelude.{ℕ, List, [], ◌∷◌, codes, map, string_bytes}
use Rattle.std.specs.Borrow.{Bor}
use Rattle.serde_json.specs.Data.{Data, array, member, no_members, number, object, string, unsigned, Members}
use Rattle.serde_json.specs.View.{items_of}
use Rattle.base_language.specs.Pieces.MetaRules.{name_of}
use Rattle.base_language.specs.Pieces.PrintedError.{error_line}
use Rattle.base_ast.specs.declared.optimized.OptimizedRule.{OptimizedRule}
use Rattle.format_json.specs.Format.{optimized_rules_data}
use Rattle.base_language.specs.declared.grammar.Rule.{Rule}
use Rattle.base_language.specs.declared.runtime.errors.Error.{Error}
use Rattle.base_language.specs.declared.runtime.errors.ErrorVariant.{ErrorVariant}
use Rattle.base_language.specs.declared.runtime.errors.ErrorVariant.TheVariants.{ParsingError, CustomError}
use Rattle.base_language.specs.declared.runtime.errors.InputLocation.{InputLocation}
use Rattle.base_language.specs.declared.runtime.errors.InputLocation.TheVariants as location
use Rattle.base_language.specs.declared.runtime.errors.LineColLocation.{LineColLocation}
use Rattle.base_language.specs.declared.runtime.errors.LineColLocation.TheVariants as line_col

abbrev pub list_data : List Data → Data
list_data ds = array (items_of ds)

abbrev pub size_data : ℕ → Data
size_data n = number (unsigned n)

-- a list of names
abbrev pub names_data : List (Bor (List ℕ)) → Data
names_data names = list_data (map (λ name. string name.now) names)

abbrev pub rule_names_data : List Rule → Data
rule_names_data rules = list_data (map (λ rule. string (name_of rule)) rules)

-- the location of an error: its position, or its start and its end, in bytes
abbrev pub location_data : InputLocation → Data
location_data (location.Pos place) = list_data (size_data place ∷ [])
location_data (location.Span places) = list_data (size_data places.0 ∷ size_data places.1 ∷ [])

-- a line and a column
abbrev pub pair_data : ℕ × ℕ → Data
pair_data place = list_data (size_data place.0 ∷ size_data place.1 ∷ [])

abbrev pub line_col_data : LineColLocation → Data
line_col_data (line_col.Pos place) = list_data (pair_data place ∷ [])
line_col_data (line_col.Span start end) = list_data (pair_data start ∷ pair_data end ∷ [])

-- the members of an error's message, the line of the text, its lines and columns, and its location
abbrev pub message_members : List ℕ → Data → Data → List ℕ → Members
message_members line places location message =
    member (codes "line") (string line) (member (codes "line_col") places
    (member (codes "location") location (member (codes "message") (string message) no_members)))

-- the members of an error's kind, syntax or not, and of its message; a syntax error has the expected rules,
-- too
abbrev pub error_members : List Rule → ErrorVariant → (List ℕ → Members) → Members
error_members expected ParsingError said = member (codes "expected") (rule_names_data expected)
    (member (codes "kind") (string (codes "parsing")) (said (codes "unknown parsing error")))
error_members expected (CustomError message) said =
    member (codes "kind") (string (codes "custom")) (said (string_bytes message))

-- an error
abbrev pub error_data : List Rule → Error Rule → Data
error_data expected error = object (error_members expected error.variant
    (message_members (error_line error) (line_col_data error.line_col) (location_data error.location)))

-- a list of errors
abbrev pub errors_data : List Rule → List (Error Rule) → Data
errors_data expected errors = list_data (map (error_data expected) errors)

-- the answer for a text: the builtins, and the optimized rules
abbrev pub answer_data : List (Bor (List ℕ)) → List OptimizedRule → Data
answer_data builtins rules = object (member (codes "builtins") (names_data builtins)
    (member (codes "rules") (optimized_rules_data rules) no_members))

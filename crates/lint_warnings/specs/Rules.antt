-- Rules that no other rule calls.
use Rattle.std.specs.Prelude.{ℕ, List, [], ◌∷◌, Bool, false, not, ◌&&◌, ◌||◌, if◌then◌else◌, bytes_eq, flat_map}
use Rattle.std.specs.Str.{str_eq_ignore_ascii_case}
use Rattle.base_language.specs.Language.Text.{Text}
use Rattle.base_language.specs.Language.Expression.{Expression, Ident, comment, whitespace}
use Rattle.base_language.specs.Language.Builtins.{is_one_of}
use Rattle.front_names.specs.Builtins.{name_of}
use Rattle.front_names.specs.declared.builtin.Builtin.TheVariants.{Soi, Eoi}
use Rattle.front_spanned.specs.Walk.{preorder}
pub use Rattle.front_spanned.specs.Spanned.{SpannedRule}
use Rattle.front_spanned.specs.Spanned.{Span, Spanned, Leaf}

-- the name that an expression calls, where it is a call
abbrev pub name_of_call : Expression → List Text
name_of_call (Ident n) = n ∷ []
name_of_call _ = []

abbrev pub name_called : Spanned → List Text
name_called (Leaf s e) = name_of_call e
name_called _ = []

-- a rule calls this name, which is not its own
abbrev pub calls_another : SpannedRule → Text → Bool
calls_another r n = not (bytes_eq r.name n) && is_one_of (flat_map name_called (preorder r.body)) n

-- a rule of another name calls it
abbrev pub is_called : List SpannedRule → Text → Bool
is_called [] n = false
is_called (r ∷ rs) n = calls_another r n || is_called rs n

-- the rules that are skipped between others, without a call
abbrev pub needs_no_call : Text → Bool
needs_no_call n = bytes_eq n whitespace || bytes_eq n comment

-- bytes that are one of these names but for the case of letters
abbrev pub is_blank_name_in_any_case : List ℕ → Bool
is_blank_name_in_any_case n =
    str_eq_ignore_ascii_case n whitespace || str_eq_ignore_ascii_case n comment

-- the builtins at the ends of a text: a rule that calls one is a start
abbrev pub names_end : List Text → Bool
names_end ns = is_one_of ns (name_of Soi) || is_one_of ns (name_of Eoi)

abbrev pub is_start : SpannedRule → Bool
is_start r = names_end (flat_map name_called (preorder r.body))

-- a name that a rule of another name calls, or that is asked for as a start
abbrev pub is_needed : List Text → List SpannedRule → Text → Bool
is_needed starts rules n = is_one_of starts n || is_called rules n

-- `f`: the names that are needed
abbrev pub is_uncalled : (Text → Bool) → SpannedRule → Bool
is_uncalled f r = not (needs_no_call r.name) && not (f r.name) && not (is_start r)

-- the span of a rule's name, where it is not needed
abbrev pub uncalled_at : (Text → Bool) → SpannedRule → List Span
uncalled_at f r = if is_uncalled f r then r.span ∷ [] else []

-- a start is asked for, or a rule calls a builtin at an end of the text
abbrev pub knows_start : (Text → Bool) → Bool
knows_start f = f (name_of Soi) || f (name_of Eoi)

-- where none is known: the rules after the first, which is the start unless it is needed
abbrev pub after_first : (Text → Bool) → List SpannedRule → List SpannedRule
after_first f [] = []
after_first f (r ∷ rs) = if needs_no_call r.name then after_first f rs else (if f r.name then [] else rs)

abbrev pub judged : (Text → Bool) → List SpannedRule → List SpannedRule
judged f rules = if knows_start f then rules else after_first f rules

-- the spans of the names of rules that are not needed
abbrev pub uncalled_rules : List Text → List SpannedRule → List Span
uncalled_rules starts rules =
    flat_map (uncalled_at (is_needed starts rules)) (judged (is_needed starts rules) rules)

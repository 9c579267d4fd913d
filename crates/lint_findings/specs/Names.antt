-- Names of rules that mean something elsewhere.
use Rattle.std.specs.Prelude.{List, [], ◌∷◌, Bool, ◌||◌, codes, flat_map, if◌then◌else◌}
use Rattle.base_language.specs.Language.Builtins.{is_one_of}
use Rattle.base_language.specs.Language.Text.{Text}
use Rattle.base_language.specs.Pieces.Saying.{Span, written}
use Rattle.front_names.specs.Names.{is_builtin}
use Rattle.front_spanned.specs.Spanned.{SpannedRule}

-- the words that Rust keeps for itself in any edition up to 2024
unfoldable pub edition_keywords : List Text
edition_keywords =
    codes "abstract" ∷ codes "as" ∷ codes "async" ∷ codes "await" ∷ codes "become" ∷ codes "box" ∷
    codes "break" ∷ codes "const" ∷ codes "continue" ∷ codes "crate" ∷ codes "do" ∷ codes "dyn" ∷
    codes "else" ∷ codes "enum" ∷ codes "extern" ∷ codes "false" ∷ codes "final" ∷ codes "fn" ∷
    codes "for" ∷ codes "gen" ∷ codes "if" ∷ codes "impl" ∷ codes "in" ∷ codes "let" ∷
    codes "loop" ∷ codes "macro" ∷ codes "match" ∷ codes "mod" ∷ codes "move" ∷ codes "mut" ∷
    codes "override" ∷ codes "priv" ∷ codes "pub" ∷ codes "ref" ∷ codes "return" ∷ codes "Self" ∷
    codes "self" ∷ codes "static" ∷ codes "struct" ∷ codes "super" ∷ codes "trait" ∷ codes "true" ∷
    codes "try" ∷ codes "type" ∷ codes "typeof" ∷ codes "unsafe" ∷ codes "unsized" ∷ codes "use" ∷
    codes "virtual" ∷ codes "where" ∷ codes "while" ∷ codes "yield" ∷ []

-- the names that builtins had in pest 1
unfoldable pub old_builtins : List Text
old_builtins =
    codes "any" ∷ codes "comment" ∷ codes "eoi" ∷ codes "peek" ∷ codes "pop" ∷ codes "push" ∷
    codes "soi" ∷ codes "whitespace" ∷ []

abbrev pub is_keyword : Text → Bool
is_keyword name = is_one_of edition_keywords name

-- a builtin that rules may be named as, or one of pest 1
abbrev pub is_builtin_name : Text → Bool
is_builtin_name name = is_builtin name || is_one_of old_builtins name

-- the spans of the names of rules that are such names
abbrev pub named_at : (Text → Bool) → SpannedRule → List Span
named_at f rule = if f (written rule.span) then rule.span ∷ [] else []

abbrev pub named_rules : (Text → Bool) → List SpannedRule → List Span
named_rules f rules = flat_map (named_at f) rules

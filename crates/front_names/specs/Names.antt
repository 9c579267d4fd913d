-- The names that no rule may have, and the names of some pieces.
use Rattle.std.specs.Prelude.{◌≡◌, ⊤, ℕ, List, [], ◌∷◌, ◌++◌, Bool, not, ◌&&◌, if◌then◌else◌, is_some, map, filter, codes}
use Rattle.base_language.specs.Language.Text.{Text}
use Rattle.base_language.specs.Language.Builtins.{is_one_of, builtin_of}
use Rattle.base_language.specs.Language.Grammar.{keywords}
use Rattle.base_language.specs.Pieces.Saying.{Span, written, Complaint}
use Rattle.front_names.specs.Messages.{prefix, suffix}
use Rattle.front_names.specs.declared.messages.NameProblem.{NameProblem}
use Rattle.front_names.specs.declared.messages.NameProblem.TheVariants as problem_is

-- the words that Rust keeps for itself
unfoldable pub rust_keywords : List Text
rust_keywords =
    codes "abstract" ∷ codes "alignof" ∷ codes "as" ∷ codes "become" ∷ codes "box" ∷ codes "break"
    ∷ codes "const" ∷ codes "continue" ∷ codes "crate" ∷ codes "do" ∷ codes "else" ∷ codes "enum"
    ∷ codes "extern" ∷ codes "false" ∷ codes "final" ∷ codes "fn" ∷ codes "for" ∷ codes "if"
    ∷ codes "impl" ∷ codes "in" ∷ codes "let" ∷ codes "loop" ∷ codes "macro" ∷ codes "match"
    ∷ codes "mod" ∷ codes "move" ∷ codes "mut" ∷ codes "offsetof" ∷ codes "override" ∷ codes "priv"
    ∷ codes "proc" ∷ codes "pure" ∷ codes "pub" ∷ codes "ref" ∷ codes "return" ∷ codes "Self"
    ∷ codes "self" ∷ codes "sizeof" ∷ codes "static" ∷ codes "struct" ∷ codes "super" ∷ codes "trait"
    ∷ codes "true" ∷ codes "type" ∷ codes "typeof" ∷ codes "unsafe" ∷ codes "unsized" ∷ codes "use"
    ∷ codes "virtual" ∷ codes "where" ∷ codes "while" ∷ codes "yield" ∷ []

-- a grammar need not define it
abbrev pub is_builtin : Text → Bool
is_builtin name = is_some (builtin_of name)

-- all these pieces are in this text
abbrev pub AreIn : List ℕ → List Span → Type 0
AreIn text [] = ⊤
AreIn text (place ∷ places) = (place.text ≡ text) × AreIn text places

-- the pieces whose names are among these
abbrev pub places_of : List Text → List Span → List Span
places_of names places = filter (λ place. is_one_of names (written place)) places

-- the pieces whose names occur at an earlier piece, or are among these
abbrev pub later_places : List Text → List Span → List Span
later_places before [] = []
later_places before (place ∷ places) =
    if is_one_of before (written place) then place ∷ later_places (written place ∷ before) places
    else later_places (written place ∷ before) places

-- the other pieces, the first of each name that is not among these
abbrev pub first_places : List Text → List Span → List Span
first_places before [] = []
first_places before (place ∷ places) =
    if is_one_of before (written place) then first_places (written place ∷ before) places
    else place ∷ first_places (written place ∷ before) places

-- the calls that are neither a definition's name nor a builtin
abbrev pub undefined_calls : List Span → List Span → List Span
undefined_calls definitions calls =
    filter (λ call. not (is_one_of (map written definitions) (written call))
    && not (is_builtin (written call)))
    calls

-- an error about the name of each piece, between two words
abbrev pub said : Text → Text → List Span → List Complaint
said before after places =
    map (λ place. record { message = before ++ written place ++ after; span = place }) places

-- an error that says what is wrong with the name of each piece
abbrev pub complaints : NameProblem → List Span → List Complaint
complaints problem places = said (prefix problem) (suffix problem) places

-- definitions that are keywords of Rust
abbrev pub rust_keyword_complaints : List Span → List Complaint
rust_keyword_complaints definitions =
    complaints problem_is.RustKeyword (places_of rust_keywords definitions)

-- definitions that are keywords of pest
abbrev pub pest_keyword_complaints : List Span → List Complaint
pest_keyword_complaints definitions =
    complaints problem_is.PestKeyword (places_of keywords definitions)

-- definitions with an equal name before them
abbrev pub duplicate_complaints : List Span → List Complaint
duplicate_complaints definitions =
    complaints problem_is.AlreadyDefined (later_places [] definitions)

-- calls of names that are neither defined nor a builtin
abbrev pub undefined_complaints : List Span → List Span → List Complaint
undefined_complaints definitions calls =
    complaints problem_is.Undefined (undefined_calls definitions calls)

-- Lexemes of a text, and those around one of its bytes.
use Rattle.std.specs.Prelude.{◌≡◌, ◌⊎◌, ◌+◌, ◌-◌, ◌==◌, ◌&&◌, ◌||◌, ◌<◌, ◌≤◌, ◌++◌, ◌∷◌, [], ℕ, List, Bool, true, false, None, Option, Some, codes, length, map, nat_le, nat_lt, not, option_and_then, slice_get, slice_index_or, slice_range, take, if◌then◌else◌}
use Rattle.std.specs.Borrow.{Bor}
use Rattle.std.specs.List.{list_any}
use Rattle.std.specs.Str.{IsCharBoundary}
use Rattle.lint_lexemes.specs.declared.lexer.Lexeme.{Lexeme}
use Rattle.lint_lexemes.specs.declared.lexer.LexemeClass.{LexemeClass}
use Rattle.lint_lexemes.specs.declared.lexer.LexemeClass.TheVariants as class
use Rattle.lint_lexemes.specs.declared.site.Site.{Site}

-- no lexeme, at a byte
abbrev pub edge : ℕ → Lexeme
edge at = record { class = class.Edge; start = at; end = at }

-- the lexeme of an index, or the edge at the text's end
abbrev pub lexeme_at : List Lexeme → ℕ → ℕ → Lexeme
lexeme_at lexemes index end = slice_index_or lexemes index (edge end)

-- lexemes have bytes, and follow each other between two bytes
abbrev pub AreInOrder : ℕ → List Lexeme → ℕ → Type 0
AreInOrder from [] to = from ≤ to
AreInOrder from (lexeme ∷ lexemes) to =
    (from ≤ lexeme.start) × (lexeme.start < lexeme.end) × AreInOrder lexeme.end lexemes to

-- whether a lexeme is this ASCII character
abbrev pub is_sign : ℕ → LexemeClass → Bool
is_sign sign (class.Sign byte) = byte == sign
is_sign sign _ = false

-- whether an expression may end with a lexeme
abbrev pub ends_term : LexemeClass → Bool
ends_term class.Name = true
ends_term class.Text = true
ends_term class.Character = true
ends_term (class.Sign byte) = list_any (λ sign. byte == sign) (codes ")]}*+?")
ends_term _ = false

-- whether an expression may begin with a lexeme
abbrev pub starts_term : LexemeClass → Bool
starts_term class.Name = true
starts_term class.Text = true
starts_term class.OpenText = true
starts_term class.Character = true
starts_term (class.Sign byte) = list_any (λ sign. byte == sign) (codes "(^!&")
starts_term _ = false

abbrev pub is_opening : LexemeClass → Bool
is_opening class = is_sign 40 class || (is_sign 91 class || is_sign 123 class)

abbrev pub is_closing : LexemeClass → Bool
is_closing class = is_sign 41 class || (is_sign 93 class || is_sign 125 class)

-- the index of the first lexeme that ends after a byte, or how many there are
abbrev pub index_at : ℕ → List Lexeme → ℕ
index_at byte [] = 0
index_at byte (lexeme ∷ lexemes) = if nat_lt byte lexeme.end then 0 else index_at byte lexemes + 1

-- the brackets that are open after one more lexeme
abbrev pub open_after : List Lexeme → Lexeme → List Lexeme
open_after brackets lexeme = if is_opening lexeme.class then brackets ++ lexeme ∷ []
    else (if is_closing lexeme.class then take (length brackets - 1) brackets else brackets)

-- the brackets that are open after more lexemes
abbrev pub open_in : List Lexeme → List Lexeme → List Lexeme
open_in brackets [] = brackets
open_in brackets (lexeme ∷ lexemes) = open_in (open_after brackets lexeme) lexemes

-- the bytes of texts
abbrev pub bytes_of : List (Bor (List ℕ)) → List (List ℕ)
bytes_of texts = map (λ t. t.now) texts

-- a part of a text: the bytes between two places, or nothing where one of these is in a character
abbrev pub IsPart : List ℕ → ℕ → ℕ → List ℕ → Type 0
IsPart text start end part = (part ≡ slice_range text start end)
    ⊎ ((part ≡ []) × (start ≤ end → IsCharBoundary text start → ¬ IsCharBoundary text end))

abbrev pub is_name : LexemeClass → Bool
is_name class.Name = true
is_name _ = false

abbrev pub is_edge : LexemeClass → Bool
is_edge class.Edge = true
is_edge _ = false

-- the lexeme so many after that of an error
abbrev pub lexeme_after : Site → ℕ → Lexeme
lexeme_after site count = lexeme_at site.lexemes.items (site.index + count) (length site.text.now)

-- the lexeme so many before that of an error, or the edge at the text's start
abbrev pub lexeme_before : Site → ℕ → Lexeme
lexeme_before site count = if nat_le count site.index
    then lexeme_at site.lexemes.items (site.index - count) (length site.text.now) else edge 0

-- the innermost bracket that is open before an error
abbrev pub innermost : Site → Option Lexeme
innermost site = slice_get site.open.items (length site.open.items - 1)

-- whether a bracket that is open is this one
abbrev pub is_bracket : ℕ → Option Lexeme → Bool
is_bracket sign None = false
is_bracket sign (Some bracket) = is_sign sign bracket.class

-- whether a rule begins at an error: a name that is no tag, and `=`
abbrev pub starts_rule : Site → Bool
starts_rule site = is_name (lexeme_after site 0).class
    && (is_sign 61 (lexeme_after site 1).class && not (is_sign 35 (lexeme_before site 1).class))

-- whether an error shows that a bracket before it is not closed: the text ends, `=` comes, a brace closes
-- no brace, or a rule begins
abbrev pub is_unclosed : Site → Lexeme → Bool
is_unclosed site bracket = is_edge (lexeme_after site 0).class || (is_sign 61 (lexeme_after site 0).class
    || ((is_sign 125 (lexeme_after site 0).class && not (is_sign 123 bracket.class)) || starts_rule site))

-- the innermost bracket, where it is not closed
abbrev pub unclosed_bracket : Site → Option Lexeme
unclosed_bracket site =
    option_and_then (λ bracket. if is_unclosed site bracket then Some bracket else None) (innermost site)

-- how many braces are open after one more lexeme
abbrev pub depth_after : ℕ → LexemeClass → ℕ
depth_after depth class = if is_sign 123 class then depth + 1
    else (if is_sign 125 class then depth - 1 else depth)

abbrev pub is_equals_next : List Lexeme → Bool
is_equals_next [] = false
is_equals_next (lexeme ∷ lexemes) = is_sign 61 lexeme.class

-- a name before `=`
abbrev pub name_before : Lexeme → List Lexeme → List (ℕ × ℕ)
name_before lexeme lexemes = if is_name lexeme.class && is_equals_next lexemes
    then (lexeme.start, lexeme.end) ∷ [] else []

-- the names before `=` outside of braces, of which so many are open
abbrev pub names_in : ℕ → List Lexeme → List (ℕ × ℕ)
names_in depth [] = []
names_in depth (lexeme ∷ lexemes) = (if depth == 0 then name_before lexeme lexemes else [])
    ++ names_in (depth_after depth lexeme.class) lexemes

-- the bytes of the names that a text defines
abbrev pub AreDefined : List ℕ → List (ℕ × ℕ) → Type 0
AreDefined text names = (lexemes : List Lexeme) × AreInOrder 0 lexemes (length text)
    × (names ≡ names_in 0 lexemes)

-- How texts and expressions are printed.
use Rattle.std.specs.Prelude.{ℕ, ℤ, ◌+◌, ◌/◌, ◌%◌, Bool, ◌||◌, ◌==◌, Option, Some, None, List, [], ◌∷◌, ◌++◌, if◌then◌else◌, nat_lt, codes}
use Rattle.std.specs.Fmt.{decimal, signed_decimal}
use Rattle.std.specs.List.{flat_map}
use Rattle.base_language.specs.Language.Text.{Text}
use Rattle.base_language.specs.Language.Expression.{Expression, Str, Insens, Range, Ident, PeekSlice, PosPred, NegPred, Seq, Choice, Opt, Rep, RepOnce, RepExact, RepMin, RepMax, RepMinMax, Skip, Push, PushLiteral, NodeTag, RestoreOnErr}
use Rattle.base_language.specs.Language.Builtins.{is_between}

-- a digit in hexadecimal: 48 is `0`, and 87 + 10 is `a`
abbrev pub hex_digit : ℕ → ℕ
hex_digit d = if nat_lt d 10 then 48 + d else 87 + d

-- U+0000 to U+001F and U+007F to U+009F
abbrev pub is_control : ℕ → Bool
is_control c = nat_lt c 0x20 || is_between 0x7f 0x9f c

-- a character below U+0100 by its number
abbrev pub numbered : ℕ → Text
numbered c = codes "\\u{" ++ hex_digit (c / 16) ∷ hex_digit (c % 16) ∷ codes "}"

-- a character of a literal with that quote
abbrev pub escaped : ℕ → ℕ → Text
escaped quote c =
    if c == quote then 92 ∷ c ∷ []
    else if c == 0 then codes "\\0"
    else if c == 9 then codes "\\t"
    else if c == 10 then codes "\\n"
    else if c == 13 then codes "\\r"
    else if c == 92 then codes "\\\\"
    else if is_control c then numbered c
    else if c == 0x2028 then codes "\\u{2028}"
    else if c == 0x2029 then codes "\\u{2029}"
    else c ∷ []

-- a text as a literal with that quote
abbrev pub literal : ℕ → Text → Text
literal quote t = quote ∷ flat_map (escaped quote) t ++ quote ∷ []

-- between parentheses
abbrev pub parenthesized : Text → Text
parenthesized t = codes "(" ++ t ++ codes ")"

-- a bound of a range: its first character as a literal, or nothing between the quotes
abbrev pub bound_literal : Text → Text
bound_literal [] = codes "''"
bound_literal (c ∷ t) = 39 ∷ escaped 39 c ++ 39 ∷ []

-- where a slice ends, if it says so
abbrev pub slice_end : Option ℤ → Text
slice_end None = []
slice_end (Some j) = signed_decimal j

-- texts as literals with bars between them
abbrev pub alternatives : List Text → Text
alternatives [] = []
alternatives (t ∷ []) = literal 34 t
alternatives (t ∷ u ∷ ts) = literal 34 t ++ codes " | " ++ alternatives (u ∷ ts)

-- the position of an expression: alone, on the right of a `~` or a `|`, or before a postfix operator
pub data Place : Type 0 where
  Alone : Place
  AfterTilde : Place
  AfterBar : Place
  BeforePostfix : Place

-- before a postfix operator a predicate has parentheses: in `!e?` the predicate is over the option
abbrev pub predicate_at : Place → Text → Text
predicate_at BeforePostfix t = parenthesized t
predicate_at _ t = t

-- a sequence has parentheses, but not on the right of a `~`, nor a choice on the right of a `|`
abbrev pub sequence_at : Place → Text → Text
sequence_at AfterTilde t = t
sequence_at _ t = parenthesized t

abbrev pub choice_at : Place → Text → Text
choice_at AfterBar t = t
choice_at _ t = parenthesized t

-- a wrapper prints as its operand, which is no part of a chain around the wrapper
abbrev pub inside_wrapper : Place → Place
inside_wrapper BeforePostfix = BeforePostfix
inside_wrapper _ = Alone

-- an expression at a position
abbrev pub printed_at : Place → Expression → Text
printed_at k (Str t) = literal 34 t
printed_at k (Insens t) = codes "^" ++ literal 34 t
printed_at k (Range t u) = parenthesized (bound_literal t ++ codes ".." ++ bound_literal u)
printed_at k (Ident n) = n
printed_at k (PeekSlice i j) = codes "PEEK[" ++ signed_decimal i ++ codes ".." ++ slice_end j ++ codes "]"
printed_at k (PosPred e) = predicate_at k (codes "&" ++ printed_at Alone e)
printed_at k (NegPred e) = predicate_at k (codes "!" ++ printed_at Alone e)
printed_at k (Seq a b) = sequence_at k (printed_at Alone a ++ codes " ~ " ++ printed_at AfterTilde b)
printed_at k (Choice a b) = choice_at k (printed_at Alone a ++ codes " | " ++ printed_at AfterBar b)
printed_at k (Opt e) = printed_at BeforePostfix e ++ codes "?"
printed_at k (Rep e) = printed_at BeforePostfix e ++ codes "*"
printed_at k (RepOnce e) = printed_at BeforePostfix e ++ codes "+"
printed_at k (RepExact e n) = printed_at BeforePostfix e ++ codes "{" ++ decimal n ++ codes "}"
printed_at k (RepMin e m) = printed_at BeforePostfix e ++ codes "{" ++ decimal m ++ codes ",}"
printed_at k (RepMax e n) = printed_at BeforePostfix e ++ codes "{," ++ decimal n ++ codes "}"
printed_at k (RepMinMax e m n) =
    printed_at BeforePostfix e ++ codes "{" ++ decimal m ++ codes ", " ++ decimal n ++ codes "}"
printed_at k (Skip ts) = codes "(!(" ++ alternatives ts ++ codes ") ~ ANY)*"
printed_at k (Push e) = codes "PUSH(" ++ printed_at Alone e ++ codes ")"
printed_at k (PushLiteral t) = codes "PUSH_LITERAL(" ++ literal 34 t ++ codes ")"
printed_at k (NodeTag e t) = parenthesized (codes "#" ++ t ++ codes " = " ++ printed_at Alone e)
printed_at k (RestoreOnErr e) = printed_at (inside_wrapper k) e

-- an expression by itself
abbrev pub printed : Expression → Text
printed e = printed_at Alone e

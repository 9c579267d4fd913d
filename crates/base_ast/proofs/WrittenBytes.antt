-- What is written of an expression, in UTF-8, is its printed text.
use Rattle.std.proofs.Common.{◌≡◌, refl, sym, ◌∙◌, ap, ap₂, ℕ, zero, suc, ℤ, pos, negsuc, ◌+◌, ◌/◌, ◌%◌, ◌<◌, lt-ltb, List, [], ◌∷◌, ◌++◌, Bool, true, false, ◌&&◌, nat_lt, Option, Some, None, codes, arith, if◌then◌else◌, ◌==◌, ltb-true, encode_utf8_all, map, append-nil, append_assoc, string_bytes}
use Rattle.std.proofs.Math.Utf8.{encodes, encode}
use Rattle.std.proofs.lemmas.Str.{encodes-append, encode_ascii, chars_past_char}
use Rattle.std.specs.Str.{IsUtf8, chars}
use Rattle.std.specs.List.{flat_map}
use Rattle.std.specs.declared.string.String.{String}
use Rattle.std.specs.declared.alloc.Global.{Global}
use Rattle.std.specs.Fmt.{decimal, signed_decimal, digits, digits_onto, digit_glyph}
use Rattle.base_language.specs.Language.Text.{Text}
use Rattle.base_ast.specs.Ast.{text_of, expression_of}
use Rattle.base_ast.specs.Optimized.{optimized_expression_of}
use Rattle.base_ast.specs.declared.ast.Expr as bare
use Rattle.base_ast.specs.declared.optimized.OptimizedExpr as optimized
use Rattle.base_ast.specs.Printing.{escaped, literal, parenthesized, Place, Alone, AfterTilde, AfterBar, BeforePostfix, inside_wrapper, sequence_at, choice_at, printed_at, printed, predicate_at, bound_literal, slice_end, alternatives}
use Rattle.base_ast.specs.PrintedBytes.{ByPlace, everywhere, enclosed, literal_bytes, one_more, alternatives_bytes, skip_bytes, range_bytes, slice_bytes, predicate_bytes, sequence_bytes, choice_bytes, push_literal_bytes, wrapper_bytes, written_bytes, optimized_bytes}
use Rattle.base_ast.proofs.Characters.{encodes-text_of}

-- a text and its bytes; a record, so that both can be found from a proof
record IsInBytes (a A : List ℕ) : Type 0 where
  same : encodes a ≡ A

-- characters below 128 are written as they are
abbrev are_small : List ℕ → Bool
are_small [] = true
are_small (c ∷ t) = nat_lt c 128 && are_small t

encodes-are_small : (t : Text) → are_small t ≡ true → encodes t ≡ t
encodes-are_small [] h = refl
encodes-are_small (c ∷ t) h = go (nat_lt c 128) refl (encodes-are_small t) h
  where
    go : (b : Bool) → nat_lt c 128 ≡ b → (are_small t ≡ true → encodes t ≡ t) → (b && are_small t) ≡ true
        → encodes (c ∷ t) ≡ c ∷ t
    go true i f k = ap₂ ◌++◌ (encode_ascii c (ltb-true c 128 i)) (f k)
    go false i f k = cc

signs : (t : Text) → are_small t ≡ true → IsInBytes t t
signs t h = record { same = encodes-are_small t h }

-- digits are
small_glyph : (d : ℕ) → d < 10 → nat_lt (digit_glyph false d) 128 ≡ true
small_glyph d h = let i = lt-ltb d 10 h in let j = lt-ltb (48 + d) 128 (omega (arith, h)) in rw (i, j) refl

small_digits : (k n : ℕ) (t : Text) → are_small t ≡ true → are_small (digits_onto k 10 false n t) ≡ true
small_digits zero n t h = h
small_digits (suc k) n t h = go (n / 10 == 0) (small_digits k (n / 10) (digit_glyph false (n % 10) ∷ t))
  where
    more : are_small (digit_glyph false (n % 10) ∷ t) ≡ true
    more = let i = small_glyph (n % 10) (omega arith) in rw (i, h) refl

    go : (b : Bool)
        → (are_small (digit_glyph false (n % 10) ∷ t) ≡ true → are_small (digits_onto k 10 false (n / 10) (digit_glyph false (n % 10) ∷ t)) ≡ true)
        → are_small (if b then digit_glyph false (n % 10) ∷ t else digits_onto k 10 false (n / 10) (digit_glyph false (n % 10) ∷ t)) ≡ true
    go true f = more
    go false f = f more

number : (n : ℕ) → IsInBytes (decimal n) (decimal n)
unfolding digits
number n = signs (decimal n) (small_digits 64 n [] refl)

signed : (i : ℤ) → IsInBytes (signed_decimal i) (signed_decimal i)
signed (pos n) = number n
signed (negsuc n) = let h = number (suc n) in record { same = ap₂ ◌++◌ (encode_ascii 45 (omega arith)) h.same }

signed_end : (j : Option ℤ) → IsInBytes (slice_end j) (slice_end j)
signed_end None = record { same = refl }
signed_end (Some j) = signed j

itself : (a : Text) → IsInBytes a (encodes a)
itself a = record { same = refl }

-- one text and another
infixl 5 ◌then◌
◌then◌ : {a b A B : List ℕ} → IsInBytes a A → IsInBytes b B → IsInBytes (a ++ b) (A ++ B)
◌then◌ {a} {b} h k = record { same = encodes-append a b ∙ ap₂ ◌++◌ h.same k.same }

-- the same bytes, put together in another order
grouped : {a A B : List ℕ} → IsInBytes a A → A ≡ B → IsInBytes a B
grouped h e = record { same = h.same ∙ e }

three_behind : (t a b c : List ℕ) → t ++ a ++ b ++ c ≡ t ++ (a ++ b ++ c)
three_behind t a b c = append_assoc (t ++ a) b c ∙ (append_assoc t a (b ++ c) ∙ ap (λ x. t ++ x) (sym (append_assoc a b c)))

five_behind : (t a b c d e : List ℕ) → t ++ a ++ b ++ c ++ d ++ e ≡ t ++ (a ++ b ++ c ++ d ++ e)
five_behind t a b c d e = ap (λ x. x ++ d ++ e) (three_behind t a b c) ∙ three_behind t (a ++ b ++ c) d e

in_parentheses : {a A : List ℕ} → IsInBytes a A → IsInBytes (parenthesized a) (enclosed A)
in_parentheses h = signs (codes "(") refl then h then signs (codes ")") refl

-- the bytes at a place
abbrev at : Place → ByPlace → List ℕ
at Alone x = x.alone
at AfterTilde x = x.after_tilde
at AfterBar x = x.after_bar
at BeforePostfix x = x.before_postfix

-- what is the same at each place
all_places : {a A : List ℕ} (k : Place) → IsInBytes a A → IsInBytes a (at k (everywhere A))
all_places Alone h = h
all_places AfterTilde h = h
all_places AfterBar h = h
all_places BeforePostfix h = h

-- literals, ranges, slices and searches
range : (t u : Text) → IsInBytes (parenthesized (bound_literal t ++ codes ".." ++ bound_literal u)) (range_bytes t u)
range t u = in_parentheses (itself (bound_literal t) then signs (codes "..") refl then itself (bound_literal u))

slice : (i : ℤ) (j : Option ℤ) → IsInBytes (codes "PEEK[" ++ signed_decimal i ++ codes ".." ++ slice_end j ++ codes "]") (slice_bytes i j)
slice i j = signs (codes "PEEK[") refl then signed i then signs (codes "..") refl then signed_end j then signs (codes "]") refl

more_alternatives : (s : String Global) (ss : List (String Global)) → IsInBytes (alternatives (map text_of (s ∷ ss))) (alternatives_bytes (s ∷ ss))
more_alternatives s [] = record { same = sym (append-nil (literal_bytes s)) }
more_alternatives s (t ∷ ss) =
    let h = itself (literal 34 (text_of s)) then signs (codes " | ") refl then more_alternatives t ss in
    let bar : literal_bytes s ++ codes " | " ++ alternatives_bytes (t ∷ ss) ≡ literal_bytes s ++ (codes " | " ++ alternatives_bytes (t ∷ ss)) =
    append_assoc (literal_bytes s) (codes " | ") (alternatives_bytes (t ∷ ss)) in
    record { same = h.same ∙ bar ∙ ap (λ x. literal_bytes s ++ x) (sym (append_assoc (codes " | ") (literal_bytes t) (flat_map one_more ss))) }

all_alternatives : (ss : List (String Global)) → IsInBytes (alternatives (map text_of ss)) (alternatives_bytes ss)
all_alternatives [] = record { same = refl }
all_alternatives (s ∷ ss) = more_alternatives s ss

search_for : (ss : List (String Global)) → IsInBytes (codes "(!(" ++ alternatives (map text_of ss) ++ codes ") ~ ANY)*") (skip_bytes ss)
search_for ss = signs (codes "(!(") refl then all_alternatives ss then signs (codes ") ~ ANY)*") refl

-- an expression of the definitions, and its bytes at each place
abbrev AreInBytes : (Place → Text) → ByPlace → Type 0
AreInBytes text x = (k : Place) → IsInBytes (text k) (at k x)

predicate : {a : Place → Text} {x : ByPlace} (sign : Text) → are_small sign ≡ true → AreInBytes a x
    → AreInBytes (λ k. predicate_at k (sign ++ a Alone)) (predicate_bytes sign x)
predicate sign h f Alone = signs sign h then f Alone
predicate sign h f AfterTilde = signs sign h then f Alone
predicate sign h f AfterBar = signs sign h then f Alone
predicate sign h f BeforePostfix = in_parentheses (signs sign h then f Alone)

postfix : {a : Place → Text} {x : ByPlace} (sign : Text) → are_small sign ≡ true → AreInBytes a x
    → IsInBytes (a BeforePostfix ++ sign) (x.before_postfix ++ sign)
postfix sign h f = f BeforePostfix then signs sign h

pushed : {a : Place → Text} {x : ByPlace} → AreInBytes a x → IsInBytes (codes "PUSH(" ++ a Alone ++ codes ")") (codes "PUSH(" ++ x.alone ++ codes ")")
pushed f = signs (codes "PUSH(") refl then f Alone then signs (codes ")") refl

pushed_literal : (s : String Global) → IsInBytes (codes "PUSH_LITERAL(" ++ literal 34 (text_of s) ++ codes ")") (push_literal_bytes s)
pushed_literal s = signs (codes "PUSH_LITERAL(") refl then itself (literal 34 (text_of s)) then signs (codes ")") refl

tagged : {a : Place → Text} {x : ByPlace} (t : String Global) → AreInBytes a x
    → IsInBytes (parenthesized (codes "#" ++ text_of t ++ codes " = " ++ a Alone)) (enclosed (codes "#" ++ string_bytes t ++ codes " = " ++ x.alone))
tagged t f =
    let tag : IsInBytes (text_of t) (string_bytes t) = record { same = encodes-text_of t } in
    in_parentheses (signs (codes "#") refl then tag then signs (codes " = ") refl then f Alone)

sequence : {a b : Place → Text} {x y : ByPlace} → AreInBytes a x → AreInBytes b y
    → AreInBytes (λ k. sequence_at k (a Alone ++ codes " ~ " ++ b AfterTilde)) (sequence_bytes x y)
sequence f g Alone = in_parentheses (f Alone then signs (codes " ~ ") refl then g AfterTilde)
sequence f g AfterTilde = f Alone then signs (codes " ~ ") refl then g AfterTilde
sequence f g AfterBar = in_parentheses (f Alone then signs (codes " ~ ") refl then g AfterTilde)
sequence f g BeforePostfix = in_parentheses (f Alone then signs (codes " ~ ") refl then g AfterTilde)

choice : {a b : Place → Text} {x y : ByPlace} → AreInBytes a x → AreInBytes b y
    → AreInBytes (λ k. choice_at k (a Alone ++ codes " | " ++ b AfterBar)) (choice_bytes x y)
choice f g Alone = in_parentheses (f Alone then signs (codes " | ") refl then g AfterBar)
choice f g AfterTilde = in_parentheses (f Alone then signs (codes " | ") refl then g AfterBar)
choice f g AfterBar = f Alone then signs (codes " | ") refl then g AfterBar
choice f g BeforePostfix = in_parentheses (f Alone then signs (codes " | ") refl then g AfterBar)

wrapper : {a : Place → Text} {x : ByPlace} → AreInBytes a x → AreInBytes (λ k. a (inside_wrapper k)) (wrapper_bytes x)
wrapper f Alone = f Alone
wrapper f AfterTilde = f Alone
wrapper f AfterBar = f Alone
wrapper f BeforePostfix = f BeforePostfix

in_bytes : (x : bare.Expr) → AreInBytes (λ k. printed_at k (expression_of x)) (written_bytes x)
in_bytes (bare.Str s) k = all_places k (itself _)
in_bytes (bare.Insens s) k = all_places k (signs (codes "^") refl then itself _)
in_bytes (bare.Range s u) k = all_places k (range (text_of s) (text_of u))
in_bytes (bare.Ident s) k = all_places k (record { same = encodes-text_of s })
in_bytes (bare.PeekSlice i j) k = all_places k (slice i j)
in_bytes (bare.PosPred' p x) k = predicate (codes "&") refl (in_bytes x) k
in_bytes (bare.NegPred' p x) k = predicate (codes "!") refl (in_bytes x) k
in_bytes (bare.Seq' p x q y) k = sequence (in_bytes x) (in_bytes y) k
in_bytes (bare.Choice' p x q y) k = choice (in_bytes x) (in_bytes y) k
in_bytes (bare.Opt' p x) k = all_places k (postfix (codes "?") refl (in_bytes x))
in_bytes (bare.Rep' p x) k = all_places k (postfix (codes "*") refl (in_bytes x))
in_bytes (bare.RepOnce' p x) k = all_places k (postfix (codes "+") refl (in_bytes x))
in_bytes (bare.RepExact' p x n) k =
    all_places k (grouped (in_bytes x BeforePostfix then signs (codes "{") refl then number n then signs (codes "}") refl) (three_behind (written_bytes x).before_postfix (codes "{") (decimal n) (codes "}")))
in_bytes (bare.RepMin' p x m) k =
    all_places k (grouped (in_bytes x BeforePostfix then signs (codes "{") refl then number m then signs (codes ",}") refl) (three_behind (written_bytes x).before_postfix (codes "{") (decimal m) (codes ",}")))
in_bytes (bare.RepMax' p x n) k =
    all_places k (grouped (in_bytes x BeforePostfix then signs (codes "{,") refl then number n then signs (codes "}") refl) (three_behind (written_bytes x).before_postfix (codes "{,") (decimal n) (codes "}")))
in_bytes (bare.RepMinMax' p x m n) k =
    all_places k (grouped (in_bytes x BeforePostfix then signs (codes "{") refl then number m then signs (codes ", ") refl then number n then signs (codes "}") refl) (five_behind (written_bytes x).before_postfix (codes "{") (decimal m) (codes ", ") (decimal n) (codes "}")))
in_bytes (bare.Skip ss) k = all_places k (search_for ss.items)
in_bytes (bare.Push' p x) k = all_places k (pushed (in_bytes x))
in_bytes (bare.PushLiteral s) k = all_places k (pushed_literal s)
in_bytes (bare.NodeTag' p x t) k = all_places k (tagged t (in_bytes x))

optimized_in_bytes : (x : optimized.OptimizedExpr) → AreInBytes (λ k. printed_at k (optimized_expression_of x)) (optimized_bytes x)
optimized_in_bytes (optimized.Str s) k = all_places k (itself _)
optimized_in_bytes (optimized.Insens s) k = all_places k (signs (codes "^") refl then itself _)
optimized_in_bytes (optimized.Range s u) k = all_places k (range (text_of s) (text_of u))
optimized_in_bytes (optimized.Ident s) k = all_places k (record { same = encodes-text_of s })
optimized_in_bytes (optimized.PeekSlice i j) k = all_places k (slice i j)
optimized_in_bytes (optimized.PosPred' p x) k = predicate (codes "&") refl (optimized_in_bytes x) k
optimized_in_bytes (optimized.NegPred' p x) k = predicate (codes "!") refl (optimized_in_bytes x) k
optimized_in_bytes (optimized.Seq' p x q y) k = sequence (optimized_in_bytes x) (optimized_in_bytes y) k
optimized_in_bytes (optimized.Choice' p x q y) k = choice (optimized_in_bytes x) (optimized_in_bytes y) k
optimized_in_bytes (optimized.Opt' p x) k = all_places k (postfix (codes "?") refl (optimized_in_bytes x))
optimized_in_bytes (optimized.Rep' p x) k = all_places k (postfix (codes "*") refl (optimized_in_bytes x))
optimized_in_bytes (optimized.RepOnce' p x) k = all_places k (postfix (codes "+") refl (optimized_in_bytes x))
optimized_in_bytes (optimized.Skip ss) k = all_places k (search_for ss.items)
optimized_in_bytes (optimized.Push' p x) k = all_places k (pushed (optimized_in_bytes x))
optimized_in_bytes (optimized.PushLiteral s) k = all_places k (pushed_literal s)
optimized_in_bytes (optimized.NodeTag' p x t) k = all_places k (tagged t (optimized_in_bytes x))
optimized_in_bytes (optimized.RestoreOnErr' p x) k = wrapper (optimized_in_bytes x) k

pub encodes-printed : (x : bare.Expr) → encode_utf8_all (printed (expression_of x)) ≡ (written_bytes x).alone
encodes-printed x = (in_bytes x Alone).same

pub encodes-printed_optimized : (x : optimized.OptimizedExpr)
    → encode_utf8_all (printed (optimized_expression_of x)) ≡ (optimized_bytes x).alone
encodes-printed_optimized x = (optimized_in_bytes x Alone).same

-- a bound's quote, its first character and its quote
pub encodes-bound_literal : (bs rest : List ℕ) (c : ℕ) → IsUtf8 bs → bs ≡ encode c ++ rest
    → codes "'" ++ encodes (escaped 39 c) ++ codes "'" ≡ encode_utf8_all (bound_literal (chars bs))
encodes-bound_literal bs rest c h e =
    let w = signs (codes "'") refl then itself (escaped 39 c) then signs (codes "'") refl in
    sym (ap (λ t. encodes (bound_literal t)) (chars_past_char bs rest c h e) ∙ w.same)

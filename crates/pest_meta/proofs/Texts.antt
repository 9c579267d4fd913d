-- What is printed of a writable expression is a text.
use Rattle.std.proofs.Common.{◌≡◌, refl, ◌∙◌, ap, ℕ, suc, ℤ, pos, negsuc, ◌+◌, ◌/◌, ◌%◌, ◌<◌, ◌^◌, [], ◌∷◌, ◌++◌, Bool, true, false, not, ◌||◌, nat_eq, nat_lt, nat_le, ◌==◌, if◌then◌else◌, Option, Some, None, codes, arith, eqb-true, ltb-true, leb-true, All}
use lib.Utf8.{scalar, scalars}
use Rattle.std.specs.Fmt.{decimal, signed_decimal}
use Rattle.std.specs.Str.Parse.{AllDigits}
use Rattle.std.proofs.Math.Utf8.{encodes, low_scalar}
use Rattle.std.proofs.lemmas.Fmt.{decimal_is_IsNumeral}
use Rattle.std.proofs.lemmas.List.Elements.{All-head, All-tail}
use Rattle.std.proofs.lemmas.Str.{chars-encodes}
use Rattle.std.proofs.lemmas.Str.Parse.{digit_from_value}
use Rattle.base_language.specs.Language.Text.{Text, IsText, IsScalarValue}
use Rattle.base_language.specs.Language.Builtins.{is_between}
use Rattle.base_language.specs.Language.Expression.{Expression, Str, Insens, Range, Ident, PeekSlice, PosPred, NegPred, Seq, Choice, Opt, Rep, RepOnce, RepExact, RepMin, RepMax, RepMinMax, Skip, Push, RestoreOnErr, RuleType, Normal, Silent, Atomic, CompoundAtomic, NonAtomic, Rule, Grammar, PushLiteral, NodeTag}
use Rattle.base_language.proofs.Basics.{first_of_both, second_of_both}
use Rattle.base_ast.specs.Printing.{escaped, is_control, numbered, hex_digit}
use Rattle.front_reader.specs.Flaws.{fits_i32}
use Rattle.base_ast.specs.Printing.{Place, Alone, AfterTilde, AfterBar, BeforePostfix, slice_end}
use Rattle.pest_meta.proofs.WholeGrammar.{rule_before, lines_before, all_lines}
use Rattle.pest_meta.specs.ReadsBack.{IsWritable, IsWritableRule, FitsI32, TextsExist, GrammarTextsExist, grammar_text, modifier, rule_text, is_name, is_tag, is_name_start, is_name_character, are_name_characters}
use Rattle.pest_meta.proofs.PrintedBefore.{printed_before, append-printed_at, escapes_before, literal_before, bound_before, predicate_before}
use Rattle.pest_meta.proofs.Names.{start_is_word}
use Rattle.pest_meta.proofs.Literals.{is_scalar}

-- all are scalar values; a record, so that the text is found from a proof
record IsTextOf (t : Text) : Type 0 where
  all : scalars t ≡ true

one : {c : ℕ} {t : Text} → scalar c ≡ true → IsTextOf t → IsTextOf (c ∷ t)
one h k = let i = k.all in record { all = rw (h, i) refl }

joined : {a b : Text} → IsTextOf a → IsTextOf b → IsTextOf (a ++ b)
joined {a = []} h k = k
joined {a = c ∷ a} h k = one (first_of_both (scalar c) (scalars a) h.all) (joined {a = a} (record { all = second_of_both (scalar c) (scalars a) h.all }) k)

-- digits
are_digits : (t : Text) → AllDigits 10 t → IsTextOf t
are_digits [] h = record { all = refl }
are_digits (c ∷ t) h = let i = digit_from_value c h.0 in one (low_scalar c (omega (arith, i.1))) (are_digits t h.1)

number : (n : ℕ) → n < 2 ^ 32 → IsTextOf (decimal n)
number n h = are_digits (decimal n) (decimal_is_IsNumeral n (omega (arith, h))).0.1

signed : (i : ℤ) → fits_i32 i ≡ true → IsTextOf (signed_decimal i)
signed (pos n) h = let j = ltb-true n (2 ^ 31) h in number n (omega (arith, j))
signed (negsuc n) h = let j = ltb-true n (2 ^ 31) h in one refl (number (suc n) (omega (arith, j)))

ends : (j : Option ℤ) → FitsI32 j → IsTextOf (slice_end j)
ends None h = record { all = refl }
ends (Some j) h = signed j h

-- names
below : (a z c : ℕ) → z < 55296 → is_between a z c ≡ true → scalar c ≡ true
below a z c h k = let i = leb-true c z (second_of_both (nat_le a c) (nat_le c z) k) in low_scalar c (omega (arith, h, i))

word_scalar : (c : ℕ) → is_name_character c ≡ true → scalar c ≡ true
word_scalar c h = go (nat_eq 95 c) (is_between 65 90 c) (is_between 97 122 c) (is_between 48 57 c) refl refl refl refl h
  where
    go : (a b d e : Bool) → nat_eq 95 c ≡ a → is_between 65 90 c ≡ b → is_between 97 122 c ≡ d → is_between 48 57 c ≡ e → (a || ((b || d) || e)) ≡ true → scalar c ≡ true
    go true b d e i j k l m = let n = eqb-true 95 c i in low_scalar c (omega (arith, n))
    go false true d e i j k l m = below 65 90 c (omega arith) j
    go false false true e i j k l m = below 97 122 c (omega arith) k
    go false false false true i j k l m = below 48 57 c (omega arith) l
    go false false false false i j k l m = cc

words : (n : Text) → are_name_characters n ≡ true → IsTextOf n
words [] h = record { all = refl }
words (c ∷ n) h = one (word_scalar c (first_of_both (is_name_character c) (are_name_characters n) h)) (words n (second_of_both (is_name_character c) (are_name_characters n) h))

tag : (t : Text) → is_tag t ≡ true → IsTextOf t
tag [] h = record { all = refl }
tag (c ∷ t) h = one (word_scalar c (start_is_word c (first_of_both (is_name_start c) (are_name_characters t) h))) (words t (second_of_both (is_name_start c) (are_name_characters t) h))

name : (n : Text) → is_name n ≡ true → IsTextOf n
name n h = tag n (second_of_both (not (Rattle.base_language.specs.Language.Matching.begins nat_eq (codes "PUSH") n)) (is_tag n) h)

-- literals
hex : (d : ℕ) → d < 16 → scalar (hex_digit d) ≡ true
hex d h = go (nat_lt d 10) refl
  where
    go : (b : Bool) → nat_lt d 10 ≡ b → scalar (if b then 48 + d else 87 + d) ≡ true
    go true e = low_scalar (48 + d) (omega (arith, h))
    go false e = low_scalar (87 + d) (omega (arith, h))

by_number : (c : ℕ) → is_control c ≡ true → IsTextOf (numbered c)
by_number c h =
    let i = small c h in
    one refl (one refl (one refl (one (hex (c / 16) (omega (arith, i))) (one (hex (c % 16) (omega arith)) (record { all = refl })))))
  where
    small : (c : ℕ) → is_control c ≡ true → c < 256
    small c h = go (nat_lt c 32) refl h
      where
        go : (b : Bool) → nat_lt c 32 ≡ b → (b || is_between 127 159 c) ≡ true → c < 256
        go true e k = let i = ltb-true c 32 e in omega (arith, i)
        go false e k = let i = leb-true c 159 (second_of_both (nat_le 127 c) (nat_le c 159) k) in omega (arith, i)

escape : (q c : ℕ) → scalar c ≡ true → IsTextOf (escaped q c)
escape q c h = go (c == q) (c == 0) (c == 9) (c == 10) (c == 13) (c == 92) (is_control c) (c == 0x2028) (c == 0x2029) refl
  where
    go : (b₁ b₂ b₃ b₄ b₅ b₆ b₇ b₈ b₉ : Bool) → is_control c ≡ b₇
        → IsTextOf (if b₁ then 92 ∷ c ∷ [] else if b₂ then codes "\\0" else if b₃ then codes "\\t" else if b₄ then codes "\\n" else if b₅ then codes "\\r" else if b₆ then codes "\\\\" else if b₇ then numbered c else if b₈ then codes "\\u{2028}" else if b₉ then codes "\\u{2029}" else c ∷ [])
    go true b₂ b₃ b₄ b₅ b₆ b₇ b₈ b₉ e = one refl (one h (record { all = refl }))
    go false true b₃ b₄ b₅ b₆ b₇ b₈ b₉ e = record { all = refl }
    go false false true b₄ b₅ b₆ b₇ b₈ b₉ e = record { all = refl }
    go false false false true b₅ b₆ b₇ b₈ b₉ e = record { all = refl }
    go false false false false true b₆ b₇ b₈ b₉ e = record { all = refl }
    go false false false false false true b₇ b₈ b₉ e = record { all = refl }
    go false false false false false false true b₈ b₉ e = by_number c e
    go false false false false false false false true b₉ e = record { all = refl }
    go false false false false false false false false true e = record { all = refl }
    go false false false false false false false false false e = one h (record { all = refl })

inside : (q : ℕ) (t K : Text) → IsText t → IsTextOf K → IsTextOf (escapes_before q t K)
inside q [] K h k = k
inside q (c ∷ t) K h k = joined (escape q c (is_scalar c (All-head IsScalarValue c t h))) (inside q t K (All-tail IsScalarValue c t h) k)

string : (t K : Text) → IsText t → IsTextOf K → IsTextOf (literal_before t K)
string t K h k = one refl (inside 34 t (34 ∷ K) h (one refl k))

bound : (t K : Text) → IsText t → IsTextOf K → IsTextOf (bound_before t K)
bound [] K h k = one refl (one refl k)
bound (c ∷ t) K h k = one refl (joined (escape 39 c (is_scalar c (All-head IsScalarValue c t h))) (one refl k))

predicate : (k : Place) (F : Text → Text) → ((K : Text) → IsTextOf K → IsTextOf (F K)) → (K : Text) → IsTextOf K → IsTextOf (predicate_before k F K)
predicate Alone F f K h = f K h
predicate AfterTilde F f K h = f K h
predicate AfterBar F f K h = f K h
predicate BeforePostfix F f K h = one refl (f (41 ∷ K) (one refl h))

signs3 : {c : ℕ} {K : Text} → scalar c ≡ true → IsTextOf K → IsTextOf (32 ∷ c ∷ 32 ∷ K)
signs3 h k = one refl (one h (one refl k))

printed_is : (k : Place) (e : Expression) → IsWritable e → (K : Text) → IsTextOf K → IsTextOf (printed_before k e K)
printed_is k (Str t) h K i = string t K h i
printed_is k (Insens t) h K i = one refl (string t K h i)
printed_is k (Range t u) h K i = one refl (bound t _ h.0 (one refl (one refl (bound u _ h.1 (one refl i)))))
printed_is k (Ident n) h K i = joined (name n h) i
printed_is k (PeekSlice a b) h K i = one refl (one refl (one refl (one refl (one refl (joined (signed a h.0) (one refl (one refl (joined (ends b h.1) (one refl i)))))))))
printed_is k (PosPred e) h K i = predicate k (λ L. 38 ∷ printed_before Alone e L) (λ L j. one refl (printed_is Alone e h L j)) K i
printed_is k (NegPred e) h K i = predicate k (λ L. 33 ∷ printed_before Alone e L) (λ L j. one refl (printed_is Alone e h L j)) K i
printed_is AfterTilde (Seq a b) h K i = printed_is Alone a h.0 _ (signs3 refl (printed_is AfterTilde b h.1 K i))
printed_is _ (Seq a b) h K i = one refl (printed_is Alone a h.0 _ (signs3 refl (printed_is AfterTilde b h.1 (41 ∷ K) (one refl i))))
printed_is AfterBar (Choice a b) h K i = printed_is Alone a h.0 _ (signs3 refl (printed_is AfterBar b h.1 K i))
printed_is _ (Choice a b) h K i = one refl (printed_is Alone a h.0 _ (signs3 refl (printed_is AfterBar b h.1 (41 ∷ K) (one refl i))))
printed_is k (Opt e) h K i = printed_is BeforePostfix e h _ (one refl i)
printed_is k (Rep e) h K i = printed_is BeforePostfix e h _ (one refl i)
printed_is k (RepOnce e) h K i = printed_is BeforePostfix e h _ (one refl i)
printed_is k (RepExact e m) h K i = printed_is BeforePostfix e h.0 _ (one refl (joined (number m h.2) (one refl i)))
printed_is k (RepMin e m) h K i = printed_is BeforePostfix e h.0 _ (one refl (joined (number m h.1) (one refl (one refl i))))
printed_is k (RepMax e m) h K i = printed_is BeforePostfix e h.0 _ (one refl (one refl (joined (number m h.2) (one refl i))))
printed_is k (RepMinMax e m n) h K i = printed_is BeforePostfix e h.0 _ (one refl (joined (number m h.1) (one refl (one refl (joined (number n h.3) (one refl i))))))
printed_is k (Skip ts) h K i = absurd h
printed_is k (Push e) h K i = one refl (one refl (one refl (one refl (one refl (printed_is Alone e h _ (one refl i))))))
printed_is k (PushLiteral t) h K i = joined {a = codes "PUSH_LITERAL("} (record { all = refl }) (string t (41 ∷ K) h (one refl i))
printed_is k (NodeTag e t) h K i = one refl (one refl (joined (tag t h.0) (one refl (one refl (one refl (printed_is Alone e h.1 (41 ∷ K) (one refl i)))))))
printed_is k (RestoreOnErr e) h K i = absurd h

pub texts_exist : TextsExist
texts_exist e h =
    let E : Text = printed_before Alone e (32 ∷ 125 ∷ []) in
    let all : rule_text e ≡ 120 ∷ 32 ∷ 61 ∷ 32 ∷ 123 ∷ 32 ∷ E = ap (λ t. 120 ∷ 32 ∷ 61 ∷ 32 ∷ 123 ∷ 32 ∷ t) (append-printed_at Alone e (32 ∷ 125 ∷ [])) in
    let body : IsTextOf E = printed_is Alone e h (32 ∷ 125 ∷ []) (record { all = refl }) in
    let are : IsTextOf (120 ∷ 32 ∷ 61 ∷ 32 ∷ 123 ∷ 32 ∷ E) = one refl (one refl (one refl (one refl (one refl (one refl body))))) in
    let scal : scalars (rule_text e) ≡ true = ap scalars all ∙ are.all in
    (encodes (rule_text e), (rule_text e, (scal, refl)), chars-encodes (rule_text e) scal)

-- a rule a line
of_modifier : (ty : RuleType) → IsTextOf (modifier ty)
of_modifier Normal = record { all = refl }
of_modifier Silent = record { all = refl }
of_modifier Atomic = record { all = refl }
of_modifier CompoundAtomic = record { all = refl }
of_modifier NonAtomic = record { all = refl }

of_line : (r : Rule) → IsWritableRule r → (K : Text) → IsTextOf K → IsTextOf (rule_before r.name r.type_of r.body (10 ∷ K))
of_line r h K i =
    let body : IsTextOf (printed_before Alone r.body (32 ∷ 125 ∷ 10 ∷ K)) = printed_is Alone r.body h.1 _ (one refl (one refl (one refl i))) in
    joined (name r.name h.0) (one refl (one refl (one refl (joined (of_modifier r.type_of) (one refl (one refl body))))))

of_lines : (rs : Grammar) → All IsWritableRule rs → IsTextOf (lines_before rs)
of_lines [] h = record { all = refl }
of_lines (r ∷ rs) h = of_line r (All-head IsWritableRule r rs h) (lines_before rs) (of_lines rs (All-tail IsWritableRule r rs h))

pub grammar_texts_exist : GrammarTextsExist
grammar_texts_exist rs h =
    let all : scalars (grammar_text rs) ≡ true = ap scalars (all_lines rs) ∙ (of_lines rs h).all in
    (encodes (grammar_text rs), (grammar_text rs, (all, refl)), chars-encodes (grammar_text rs) all)

-- Bytes are those of one list of optimized rules at most: they are decoded to it.
use Rattle.std.proofs.Common.{◌≡◌, ◌∙◌, ◌==◌, ℕ, ℤ, zero, suc, ◌<◌, ◌≤◌, ◌^◌, Option, Some, None, List, [], ◌∷◌, ◌++◌, cond, String, Global, All, ap, ap₂, append_assoc, arith, drop, flat_map, length, length-append, map, refl, string_bytes, sym, take}
use Rattle.std.specs.Prelude.{FitsSigned}
use Rattle.std.specs.Str.{chars}
use Rattle.std.specs.Int.{cast_signed, cast_unsigned, from_le_bytes, w32, w64}
use Rattle.std.proofs.Math.Facts.{Fits-of_z}
use Rattle.std.proofs.Math.Seq.{drop-append_seam, take-append_seam}
use Rattle.std.proofs.lemmas.Int.{to_z-of_z}
use Rattle.std.proofs.lemmas.Nat.{from_le_bytes-to_le_bytes_4, from_le_bytes-to_le_bytes_8}
use Rattle.base_language.specs.Language.Text.{Text}
use Rattle.base_language.specs.Language.Expression.{Expression, Rule}
use Rattle.base_language.specs.Language.Expression as e
use Rattle.base_ast.specs.Ast.{rule_type_of, text_of}
use Rattle.base_ast.specs.Optimized.{optimized_expression_of, optimized_rule_of, optimized_rules_of}
use Rattle.base_ast.specs.declared.ast.RuleType.{RuleType}
use Rattle.base_ast.specs.declared.ast.RuleType.TheVariants.{Normal, Silent, Atomic, CompoundAtomic, NonAtomic}
use Rattle.base_ast.specs.declared.optimized.OptimizedExpr as optimized
use Rattle.base_ast.specs.declared.optimized.OptimizedRule.{OptimizedRule}
use Rattle.format_binary.specs.Format.{end_bytes, index_bytes, list_bytes, optimized_expression_bytes, optimized_rules_bytes, rule_bytes, size_bytes, text_bytes, type_byte}
use Rattle.format_binary.specs.Indices.{FitsEnd, HasIndices}

-- sizes and texts at the front of bytes
abbrev pub size_in : List ℕ → ℕ
size_in bs = from_le_bytes w64 (take 8 bs)

abbrev text_in : List ℕ → List ℕ
text_in bs = take (size_in bs) (drop 8 bs)

abbrev pub after_text : List ℕ → List ℕ
after_text bs = drop (size_in bs) (drop 8 bs)

pub size_back : (n : ℕ) (t : List ℕ) → n < 2 ^ 64 → size_in (size_bytes n ++ t) ≡ n
unfolding size_bytes
size_back n t h = from_le_bytes-to_le_bytes_8 n h

pub size_tail : (n : ℕ) (t : List ℕ) → drop 8 (size_bytes n ++ t) ≡ t
unfolding size_bytes
size_tail n t = refl

text_back : (s t : List ℕ) → length s < 2 ^ 64 → text_in (text_bytes s ++ t) ≡ s
text_back s t h =
    let flat = append_assoc (size_bytes (length s)) s t in
    ap text_in flat ∙ (ap₂ take (size_back (length s) (s ++ t) h) (size_tail (length s) (s ++ t)) ∙ take-append_seam s t)

pub text_tail : (s t : List ℕ) → length s < 2 ^ 64 → after_text (text_bytes s ++ t) ≡ t
text_tail s t h =
    let flat = append_assoc (size_bytes (length s)) s t in
    ap after_text flat ∙ (ap₂ drop (size_back (length s) (s ++ t) h) (size_tail (length s) (s ++ t)) ∙ drop-append_seam s t)

-- indices and ends of slices
abbrev index_in : List ℕ → ℤ
index_in bs = cast_signed w32 (from_le_bytes w32 (take 4 bs))

index_back : (z : ℤ) (t : List ℕ) → FitsSigned w32 z → cast_unsigned w32 z < 2 ^ 32 → index_in (index_bytes z ++ t) ≡ z
unfolding index_bytes
index_back z t f h = ap (cast_signed w32) (from_le_bytes-to_le_bytes_4 (cast_unsigned w32 z) h) ∙ to_z-of_z w32 z f

pub index_tail : (z : ℤ) (t : List ℕ) → drop 4 (index_bytes z ++ t) ≡ t
unfolding index_bytes
index_tail z t = refl

abbrev end_in : List ℕ → Option ℤ
end_in [] = None
end_in (b ∷ bs) = cond (b == 0) None (Some (index_in bs))

abbrev pub after_end : List ℕ → List ℕ
after_end [] = []
after_end (b ∷ bs) = cond (b == 0) bs (drop 4 bs)

small_bits : (z : ℤ) → FitsSigned w32 z → cast_unsigned w32 z < 2 ^ 32
small_bits z f = (Fits-of_z {w = w32} {z = z} f).fits

end_back : (j : Option ℤ) (t : List ℕ) → FitsEnd j → end_in (end_bytes j ++ t) ≡ j
end_back None t f = refl
end_back (Some z) t f = ap Some (index_back z t f (small_bits z f))

pub end_tail : (j : Option ℤ) (t : List ℕ) → after_end (end_bytes j ++ t) ≡ t
end_tail None t = refl
end_tail (Some z) t = index_tail z t

-- lists of texts
abbrev texts_in : ℕ → List ℕ → List Text
texts_in zero bs = []
texts_in (suc n) bs = chars (text_in bs) ∷ texts_in n (after_text bs)

abbrev after_texts : ℕ → List ℕ → List ℕ
after_texts zero bs = bs
after_texts (suc n) bs = after_texts n (after_text bs)

abbrev texts_bytes : List (String Global) → List ℕ
texts_bytes ss = flat_map (λ s. text_bytes (string_bytes s)) ss

texts_both : (ss : List (String Global)) (t : List ℕ) → length (texts_bytes ss) < 2 ^ 64
    → (texts_in (length ss) (texts_bytes ss ++ t) ≡ map text_of ss) × (after_texts (length ss) (texts_bytes ss ++ t) ≡ t)
texts_both [] t h = (refl, refl)
texts_both (s ∷ ss) t h =
    let here = string_bytes s in
    let whole = length-append (text_bytes here) (texts_bytes ss) in
    let part = length-append (size_bytes (length here)) here in
    let flat = append_assoc (text_bytes here) (texts_bytes ss) t in
    let small : length here < 2 ^ 64 = omega (arith, h, whole, part) in
    let rest = texts_both ss t (omega (arith, h, whole)) in
    let first = text_back here (texts_bytes ss ++ t) small in
    let after = text_tail here (texts_bytes ss ++ t) small in (
      ap (λ bs. texts_in (suc (length ss)) bs) flat ∙ ap₂ (λ x xs. x ∷ xs) (ap chars first) (ap (texts_in (length ss)) after ∙ rest.0),
      ap (λ bs. after_texts (suc (length ss)) bs) flat ∙ (ap (after_texts (length ss)) after ∙ rest.1),
    )

-- an expression, and the bytes after it
abbrev Decoded : Type 0
Decoded = Expression × List ℕ

abbrev with_text : (Text → Expression) → List ℕ → Decoded
with_text make bs = (make (chars (text_in bs)), after_text bs)

abbrev around : (Expression → Expression) → Decoded → Decoded
around make inner = (make inner.0, inner.1)

abbrev between : (Expression → Expression → Expression) → (List ℕ → Decoded) → Decoded → Decoded
between make next left = (make left.0 (next left.1).0, (next left.1).1)

abbrev node : (List ℕ → Decoded) → ℕ → List ℕ → Decoded
node next b bs =
    cond (b == 0) (with_text e.Str bs)
    (cond (b == 1) (with_text e.Insens bs)
    (cond (b == 2) (with_text (e.Range (chars (text_in bs))) (after_text bs))
    (cond (b == 3) (with_text e.Ident bs)
    (cond (b == 4) (e.PeekSlice (index_in bs) (end_in (drop 4 bs)), after_end (drop 4 bs))
    (cond (b == 5) (around e.PosPred (next bs))
    (cond (b == 6) (around e.NegPred (next bs))
    (cond (b == 7) (between e.Seq next (next bs))
    (cond (b == 8) (between e.Choice next (next bs))
    (cond (b == 9) (around e.Opt (next bs))
    (cond (b == 10) (around e.Rep (next bs))
    (cond (b == 11) (around e.RepOnce (next bs))
    (cond (b == 16) (e.Skip (texts_in (size_in bs) (drop 8 bs)), after_texts (size_in bs) (drop 8 bs))
    (cond (b == 17) (around e.Push (next bs))
    (cond (b == 18) (with_text e.PushLiteral bs)
    (cond (b == 19) (around (λ x. e.NodeTag x (chars (text_in bs))) (next (after_text bs)))
    (around e.RestoreOnErr (next bs)))))))))))))))))

-- in at most a given number of nodes
abbrev decode : ℕ → List ℕ → Decoded
decode zero bs = (e.Str [], bs)
decode (suc k) [] = (e.Str [], [])
decode (suc k) (b ∷ bs) = node (decode k) b bs

abbrev IsDecoded : optimized.OptimizedExpr → ℕ → List ℕ → Type 0
IsDecoded x k t = decode k (optimized_expression_bytes x ++ t) ≡ (optimized_expression_of x, t)

-- one node, with fuel for what is in it
one_node : (b : ℕ) (bs : List ℕ) (k n : ℕ) (result : Decoded) → suc n ≤ k → ((m : ℕ) → n ≤ m → node (decode m) b bs ≡ result) → decode k (b ∷ bs) ≡ result
one_node b bs zero n result h f = absurd (omega (arith, h))
one_node b bs (suc m) n result h f = f m (omega (arith, h))

texted : (make : Text → Expression) (s t : List ℕ) → length s < 2 ^ 64 → with_text make (text_bytes s ++ t) ≡ (make (chars s), t)
texted make s t h = ap₂ (λ u v. let d : Decoded = (make (chars u), v) in d) (text_back s t h) (text_tail s t h)

-- a text of some bytes is no longer than these
within : (s : List ℕ) (n : ℕ) → length (text_bytes s) ≤ n → n < 2 ^ 64 → length s < 2 ^ 64
within s n h k = let part = length-append (size_bytes (length s)) s in omega (arith, h, k, part)

leaf : (b : ℕ) (make : Text → Expression) (s t : List ℕ) (k : ℕ) → suc (length (text_bytes s)) ≤ k → suc (length (text_bytes s)) < 2 ^ 64
    → ((m : ℕ) → node (decode m) b (text_bytes s ++ t) ≡ with_text make (text_bytes s ++ t)) → decode k (b ∷ (text_bytes s ++ t)) ≡ (make (chars s), t)
leaf b make s t k h l same =
    one_node b (text_bytes s ++ t) k (length (text_bytes s)) (make (chars s), t) h
    (λ m n. same m ∙ texted make s t (within s (length (text_bytes s)) (omega arith) (omega (arith, l))))

two_texts : (s u t : List ℕ) → length (text_bytes s ++ text_bytes u) < 2 ^ 64 → with_text (e.Range (chars (text_in ((text_bytes s ++ text_bytes u) ++ t)))) (after_text ((text_bytes s ++ text_bytes u) ++ t)) ≡ (e.Range (chars s) (chars u), t)
two_texts s u t l =
    let parts = length-append (text_bytes s) (text_bytes u) in
    let flat = append_assoc (text_bytes s) (text_bytes u) t in
    let small = within s (length (text_bytes s)) (omega arith) (omega (arith, l, parts)) in
    let tiny = within u (length (text_bytes u)) (omega arith) (omega (arith, l, parts)) in
    let F : List ℕ → Decoded = λ bs. with_text (e.Range (chars (text_in bs))) (after_text bs) in
    ap F flat ∙ (ap₂ (λ a bs. with_text (e.Range (chars a)) bs) (text_back s (text_bytes u ++ t) small) (text_tail s (text_bytes u ++ t) small) ∙ texted (e.Range (chars s)) u t tiny)

sliced : (i : ℤ) (j : Option ℤ) (t : List ℕ) → FitsSigned w32 i → FitsEnd j → (let bs = (index_bytes i ++ end_bytes j) ++ t in ◌≡◌ {A = Decoded} (e.PeekSlice (index_in bs) (end_in (drop 4 bs)), after_end (drop 4 bs)) (e.PeekSlice i j, t))
sliced i j t f g =
    let flat = append_assoc (index_bytes i) (end_bytes j) t in
    let F : List ℕ → Decoded = λ bs. (e.PeekSlice (index_in bs) (end_in (drop 4 bs)), after_end (drop 4 bs)) in
    let G : ℤ → List ℕ → Decoded = λ z bs. (e.PeekSlice z (end_in bs), after_end bs) in
    let H : Option ℤ → List ℕ → Decoded = λ o bs. (e.PeekSlice i o, bs) in
    ap F flat ∙ (ap₂ G (index_back i (end_bytes j ++ t) f (small_bits i f)) (index_tail i (end_bytes j ++ t)) ∙ ap₂ H (end_back j t g) (end_tail j t))

pub size_long : (n : ℕ) → length (size_bytes n) ≡ 8
unfolding size_bytes
size_long n = refl

counted : (ss : List (String Global)) → length ss ≤ length (texts_bytes ss)
counted [] = omega arith
counted (s ∷ ss) =
    let here = string_bytes s in
    let whole = length-append (text_bytes here) (texts_bytes ss) in
    let part = length-append (size_bytes (length here)) here in
    let eight = size_long (length here) in
    let rest = counted ss in
    omega (arith, whole, part, eight, rest)

skipped : (ss : List (String Global)) (t : List ℕ) → length (list_bytes (λ s. text_bytes (string_bytes s)) ss) < 2 ^ 64
    → (let bs = list_bytes (λ s. text_bytes (string_bytes s)) ss ++ t in ◌≡◌ {A = Decoded} (e.Skip (texts_in (size_in bs) (drop 8 bs)), after_texts (size_in bs) (drop 8 bs)) (e.Skip (map text_of ss), t))
skipped ss t l =
    let n = length ss in
    let flat = append_assoc (size_bytes n) (texts_bytes ss) t in
    let parts = length-append (size_bytes n) (texts_bytes ss) in
    let few = counted ss in
    let F : List ℕ → Decoded = λ bs. (e.Skip (texts_in (size_in bs) (drop 8 bs)), after_texts (size_in bs) (drop 8 bs)) in
    let G : ℕ → List ℕ → Decoded = λ m bs. (e.Skip (texts_in m bs), after_texts m bs) in
    let both = texts_both ss t (omega (arith, l, parts)) in
    let H : List Text → List ℕ → Decoded = λ us bs. (e.Skip us, bs) in
    ap F flat ∙ (ap₂ G (size_back n (texts_bytes ss ++ t) (omega (arith, l, parts, few))) (size_tail n (texts_bytes ss ++ t)) ∙ ap₂ H both.0 both.1)

two_inside : (make : Expression → Expression → Expression) (m : ℕ) (xs ys t : List ℕ) (x y : Expression) → decode m (xs ++ (ys ++ t)) ≡ (x, ys ++ t) → decode m (ys ++ t) ≡ (y, t) → between make (decode m) (decode m ((xs ++ ys) ++ t)) ≡ (make x y, t)
two_inside make m xs ys t x y h k =
    ap (λ bs. between make (decode m) (decode m bs)) (append_assoc xs ys t) ∙ (ap (between make (decode m)) h ∙ ap (around (make x)) k)

tagged : (m : ℕ) (s xs t : List ℕ) (x : Expression) → length (text_bytes s) < 2 ^ 64 → decode m (xs ++ t) ≡ (x, t) → (let bs = (text_bytes s ++ xs) ++ t in around (λ y. e.NodeTag y (chars (text_in bs))) (decode m (after_text bs)) ≡ (e.NodeTag x (chars s), t))
tagged m s xs t x l h =
    let flat = append_assoc (text_bytes s) xs t in
    let small = within s (length (text_bytes s)) (omega arith) l in
    let F : List ℕ → Decoded = λ bs. around (λ y. e.NodeTag y (chars (text_in bs))) (decode m (after_text bs)) in
    let G : List ℕ → List ℕ → Decoded = λ u bs. around (λ y. e.NodeTag y (chars u)) (decode m bs) in
    ap F flat ∙ (ap₂ G (text_back s (xs ++ t) small) (text_tail s (xs ++ t) small) ∙ ap (around (λ y. e.NodeTag y (chars s))) h)

abbrev size_of : optimized.OptimizedExpr → ℕ
size_of x = length (optimized_expression_bytes x)

pub decoded : (x : optimized.OptimizedExpr) (k : ℕ) (t : List ℕ) → size_of x < 2 ^ 64 → size_of x ≤ k → HasIndices x → IsDecoded x k t
decoded (optimized.Str s) k t l h i = leaf 0 e.Str (string_bytes s) t k h l (λ m. refl)
decoded (optimized.Insens s) k t l h i = leaf 1 e.Insens (string_bytes s) t k h l (λ m. refl)
decoded (optimized.Range s u) k t l h i = one_node 2 _ k _ _ h (λ m n. two_texts (string_bytes s) (string_bytes u) t (omega (arith, l)))
decoded (optimized.Ident s) k t l h i = leaf 3 e.Ident (string_bytes s) t k h l (λ m. refl)
decoded (optimized.PeekSlice a b) k t l h i = one_node 4 _ k _ _ h (λ m n. sliced a b t i.0 i.1)
decoded (optimized.PosPred' p x) k t l h i = one_node 5 _ k _ _ h (λ m n. ap (around e.PosPred) (decoded x m t (omega (arith, l)) n i))
decoded (optimized.NegPred' p x) k t l h i = one_node 6 _ k _ _ h (λ m n. ap (around e.NegPred) (decoded x m t (omega (arith, l)) n i))
decoded (optimized.Seq' p x q y) k t l h i =
    let parts = length-append (optimized_expression_bytes x) (optimized_expression_bytes y) in
    one_node 7 _ k _ _ h (λ m n. two_inside e.Seq m (optimized_expression_bytes x) (optimized_expression_bytes y) t _ _
    (decoded x m (optimized_expression_bytes y ++ t) (omega (arith, l, parts)) (omega (arith, n, parts)) i.0) (decoded y m t (omega (arith, l, parts)) (omega (arith, n, parts)) i.1))
decoded (optimized.Choice' p x q y) k t l h i =
    let parts = length-append (optimized_expression_bytes x) (optimized_expression_bytes y) in
    one_node 8 _ k _ _ h (λ m n. two_inside e.Choice m (optimized_expression_bytes x) (optimized_expression_bytes y) t _ _
    (decoded x m (optimized_expression_bytes y ++ t) (omega (arith, l, parts)) (omega (arith, n, parts)) i.0) (decoded y m t (omega (arith, l, parts)) (omega (arith, n, parts)) i.1))
decoded (optimized.Opt' p x) k t l h i = one_node 9 _ k _ _ h (λ m n. ap (around e.Opt) (decoded x m t (omega (arith, l)) n i))
decoded (optimized.Rep' p x) k t l h i = one_node 10 _ k _ _ h (λ m n. ap (around e.Rep) (decoded x m t (omega (arith, l)) n i))
decoded (optimized.RepOnce' p x) k t l h i = one_node 11 _ k _ _ h (λ m n. ap (around e.RepOnce) (decoded x m t (omega (arith, l)) n i))
decoded (optimized.Skip ss) k t l h i = one_node 16 _ k _ _ h (λ m n. skipped ss.items t (omega (arith, l)))
decoded (optimized.Push' p x) k t l h i = one_node 17 _ k _ _ h (λ m n. ap (around e.Push) (decoded x m t (omega (arith, l)) n i))
decoded (optimized.PushLiteral s) k t l h i = leaf 18 e.PushLiteral (string_bytes s) t k h l (λ m. refl)
decoded (optimized.NodeTag' p x s) k t l h i =
    let parts = length-append (text_bytes (string_bytes s)) (optimized_expression_bytes x) in
    one_node 19 _ k _ _ h (λ m n. tagged m (string_bytes s) (optimized_expression_bytes x) t _ (omega (arith, l, parts)) (decoded x m t (omega (arith, l, parts)) (omega (arith, n, parts)) i))
decoded (optimized.RestoreOnErr' p x) k t l h i = one_node 20 _ k _ _ h (λ m n. ap (around e.RestoreOnErr) (decoded x m t (omega (arith, l)) n i))

-- rules
abbrev kind_in : List ℕ → e.RuleType
kind_in [] = e.Normal
kind_in (b ∷ bs) = cond (b == 0) e.Normal (cond (b == 1) e.Silent (cond (b == 2) e.Atomic (cond (b == 3) e.CompoundAtomic e.NonAtomic)))

kind_back : (ty : RuleType) (bs : List ℕ) → kind_in (type_byte ty ∷ bs) ≡ rule_type_of ty
kind_back Normal bs = refl
kind_back Silent bs = refl
kind_back Atomic bs = refl
kind_back CompoundAtomic bs = refl
kind_back NonAtomic bs = refl

abbrev DecodedRule : Type 0
DecodedRule = Rule × List ℕ

abbrev made : Text → e.RuleType → Decoded → DecodedRule
made n ty d = (record { name = n; type_of = ty; body = d.0 }, d.1)

abbrev rule_in : ℕ → List ℕ → DecodedRule
rule_in k bs = made (chars (text_in bs)) (kind_in (after_text bs)) (decode k (drop 1 (after_text bs)))

abbrev bytes_of : OptimizedRule → List ℕ
bytes_of r = rule_bytes (string_bytes r.name) r.ty (optimized_expression_bytes r.expr)

rule_back : (r : OptimizedRule) (k : ℕ) (t : List ℕ) → length (bytes_of r) < 2 ^ 64 → length (bytes_of r) ≤ k → HasIndices r.expr → rule_in k (bytes_of r ++ t) ≡ (optimized_rule_of r, t)
rule_back r k t l h i =
    let name = string_bytes r.name in
    let body = optimized_expression_bytes r.expr in
    let parts = length-append (text_bytes name) (type_byte r.ty ∷ body) in
    let flat = append_assoc (text_bytes name) (type_byte r.ty ∷ body) t in
    let small = within name (length (text_bytes name)) (omega arith) (omega (arith, l, parts)) in
    let F : List ℕ → DecodedRule = rule_in k in
    let G : List ℕ → List ℕ → DecodedRule = λ a bs. made (chars a) (kind_in bs) (decode k (drop 1 bs)) in
    let H : e.RuleType → Decoded → DecodedRule = made (chars name) in
    ap F flat ∙ (ap₂ G (text_back name (type_byte r.ty ∷ (body ++ t)) small) (text_tail name (type_byte r.ty ∷ (body ++ t)) small)
    ∙ ap₂ H (kind_back r.ty (body ++ t)) (decoded r.expr k t (omega (arith, l, parts)) (omega (arith, h, parts)) i))

abbrev rules_in : ℕ → ℕ → List ℕ → List Rule
rules_in zero k bs = []
rules_in (suc n) k bs = (rule_in k bs).0 ∷ rules_in n k (rule_in k bs).1

abbrev all_bytes : List OptimizedRule → List ℕ
all_bytes rs = flat_map bytes_of rs

abbrev HaveIndices : List OptimizedRule → Type 0
HaveIndices rs = All (λ r. HasIndices r.expr) rs

rules_back : (rs : List OptimizedRule) (k : ℕ) → length (all_bytes rs) < 2 ^ 64 → length (all_bytes rs) ≤ k → HaveIndices rs → rules_in (length rs) k (all_bytes rs) ≡ map optimized_rule_of rs
rules_back [] k l h i = refl
rules_back (r ∷ rs) k l h i =
    let parts = length-append (bytes_of r) (all_bytes rs) in
    let first = rule_back r k (all_bytes rs) (omega (arith, l, parts)) (omega (arith, h, parts)) (i 0 r (omega arith)) in
    let others : HaveIndices rs = λ n d less. i (suc n) d (omega (arith, less)) in
    let F : DecodedRule → List Rule = λ d. d.0 ∷ rules_in (length rs) k d.1 in
    ap F first ∙ ap (λ xs. optimized_rule_of r ∷ xs) (rules_back rs k (omega (arith, l, parts)) (omega (arith, h, parts)) others)

rules_counted : (rs : List OptimizedRule) → length rs ≤ length (all_bytes rs)
rules_counted [] = omega arith
rules_counted (r ∷ rs) =
    let name = string_bytes r.name in
    let whole = length-append (bytes_of r) (all_bytes rs) in
    let parts = length-append (text_bytes name) (type_byte r.ty ∷ optimized_expression_bytes r.expr) in
    let part = length-append (size_bytes (length name)) name in
    let eight = size_long (length name) in
    let rest = rules_counted rs in
    omega (arith, whole, parts, part, eight, rest)

of_bytes : (bytes : List ℕ) (rs : List OptimizedRule) → length bytes < 2 ^ 64 → HaveIndices rs → bytes ≡ optimized_rules_bytes rs → rules_in (size_in bytes) (length bytes) (drop 8 bytes) ≡ optimized_rules_of rs
of_bytes bytes rs l i same =
    let n = length rs in
    let parts = length-append (size_bytes n) (all_bytes rs) in
    let whole = ap length same in
    let few = rules_counted rs in
    let F : List ℕ → List Rule = λ bs. rules_in (size_in bs) (length bytes) (drop 8 bs) in
    let G : ℕ → List ℕ → List Rule = λ m bs. rules_in m (length bytes) bs in
    ap F same ∙ (ap₂ G (size_back n (all_bytes rs) (omega (arith, l, whole, parts, few))) (size_tail n (all_bytes rs))
    ∙ rules_back rs (length bytes) (omega (arith, l, whole, parts)) (omega (arith, whole, parts)) i)

pub rules_are_one : (bytes : List ℕ) (rules others : List OptimizedRule) → length bytes < 2 ^ 64 → HaveIndices rules → HaveIndices others → bytes ≡ optimized_rules_bytes rules → bytes ≡ optimized_rules_bytes others
    → optimized_rules_of rules ≡ optimized_rules_of others
rules_are_one bytes rules others l i j r o = sym (of_bytes bytes rules l i r) ∙ of_bytes bytes others l j o

-- Keys are the same just where the expressions are.
use Rattle.std.proofs.Common.{◌≡◌, ◌∙◌, ℕ, suc, ◌+◌, ◌<◌, ◌≤◌, List, [], ◌∷◌, ◌++◌, Bool, true, false, Option, Some, None, refl, sym, ap, ap₂, append_assoc, append-nil, length, length-append, map, nat_eq, arith}
use Rattle.std.proofs.lemmas.Bool.{eqb-false}
use Rattle.std.specs.Prelude.{ℤ, pos, negsuc, flat_map}
use Rattle.std.specs.Bool.{Decides}
use Rattle.std.specs.Cmp.{unsigned_Decides}
use Rattle.std.proofs.lemmas.Grind.{flat_map-append}
use Rattle.std.proofs.lemmas.Slice.Eq.{slice_eq-Decides}
use lib.Pointwise.{pointwise}
use Rattle.base_language.specs.Language.Expression.{Expression, Str, Insens, Range, Ident, PeekSlice, PosPred, NegPred, Seq, Choice, Opt, Rep, RepOnce, RepExact, RepMin, RepMax, RepMinMax, Skip, Push, PushLiteral, NodeTag, RestoreOnErr}
use Rattle.base_language.specs.Language.Text.{Text}
use Rattle.base_language.specs.Rewritings.Equality.{expression_eq, expression_eq-Decides}
use Rattle.lint_patterns.specs.Keys.{int_key, key, option_key, sign, text_key, texts_key, unary_sign}
use Rattle.front_spanned.specs.Erasure.{round, without_spans}
use Rattle.front_spanned.specs.Spanned as spanned
use Rattle.front_spanned.specs.Spanned.{Spanned, Leaf, One, Two, Unary}
use Rattle.front_spanned.specs.Walk.{preorder}

abbrev pub first : List ℕ → ℕ
first [] = 0
first (x ∷ xs) = x

abbrev others : List ℕ → List ℕ
others [] = []
others (x ∷ xs) = xs

moved : (a b c x y z : List ℕ) → (a ++ b) ++ c ≡ (x ++ y) ++ z → a ++ (b ++ c) ≡ x ++ (y ++ z)
moved a b c x y z h = sym (append_assoc a b c) ∙ (h ∙ append_assoc x y z)

text_unique : (t u : Text) (r s : List ℕ) → text_key t ++ r ≡ text_key u ++ s → (t ≡ u) × (r ≡ s)
text_unique [] [] r s h = (refl, ap others h)
text_unique [] (d ∷ u) r s h = let e : 0 ≡ suc d = ap first h in absurd (omega arith)
text_unique (c ∷ t) [] r s h = let e : suc c ≡ 0 = ap first h in absurd (omega arith)
text_unique (c ∷ t) (d ∷ u) r s h =
    let e : suc c ≡ suc d = ap first h in
    let k = text_unique t u r s (ap others h) in
    let p : c ≡ d = omega arith in
    (ap₂ (λ x y. x ∷ y) p k.0, k.1)

texts_unique : (ts us : List Text) (r s : List ℕ) → texts_key ts ++ r ≡ texts_key us ++ s → (ts ≡ us) × (r ≡ s)
texts_unique [] [] r s h = (refl, ap others h)
texts_unique [] (u ∷ us) r s h = absurd (eqb-false 0 1 refl (ap first h))
texts_unique (t ∷ ts) [] r s h = absurd (eqb-false 1 0 refl (ap first h))
texts_unique (t ∷ ts) (u ∷ us) r s h =
    let k = text_unique t u (texts_key ts ++ r) (texts_key us ++ s) (moved (text_key t) (texts_key ts) r (text_key u) (texts_key us) s (ap others h)) in
    let l = texts_unique ts us r s k.1 in
    (ap₂ (λ x y. x ∷ y) k.0 l.0, l.1)

int_unique : (i j : ℤ) (r s : List ℕ) → int_key i ++ r ≡ int_key j ++ s → (i ≡ j) × (r ≡ s)
int_unique (pos m) (pos n) r s h = (ap pos (ap first (ap others h)), ap others (ap others h))
int_unique (pos m) (negsuc n) r s h = absurd (eqb-false 0 1 refl (ap first h))
int_unique (negsuc m) (pos n) r s h = absurd (eqb-false 1 0 refl (ap first h))
int_unique (negsuc m) (negsuc n) r s h =
    let e : suc m ≡ suc n = ap first (ap others h) in
    let p : m ≡ n = omega arith in
    (ap negsuc p, ap others (ap others h))

option_unique : (i j : Option ℤ) (r s : List ℕ) → option_key i ++ r ≡ option_key j ++ s → (i ≡ j) × (r ≡ s)
option_unique None None r s h = (refl, ap others h)
option_unique None (Some j) r s h = absurd (eqb-false 0 1 refl (ap first h))
option_unique (Some i) None r s h = absurd (eqb-false 1 0 refl (ap first h))
option_unique (Some i) (Some j) r s h = let k = int_unique i j r s (ap others h) in (ap Some k.0, k.1)

pub unique : (a b : Expression) (r s : List ℕ) → key a ++ r ≡ key b ++ s → (a ≡ b) × (r ≡ s)
unique (Str t) (Str u) r s h = let k = text_unique t u r s (ap others h) in (ap Str k.0, k.1)
unique (Insens t) (Insens u) r s h = let k = text_unique t u r s (ap others h) in (ap Insens k.0, k.1)
unique (Ident t) (Ident u) r s h = let k = text_unique t u r s (ap others h) in (ap Ident k.0, k.1)
unique (PushLiteral t) (PushLiteral u) r s h = let k = text_unique t u r s (ap others h) in (ap PushLiteral k.0, k.1)
unique (Range a b) (Range c d) r s h =
    let k = text_unique a c (text_key b ++ r) (text_key d ++ s) (moved (text_key a) (text_key b) r (text_key c) (text_key d) s (ap others h)) in
    let l = text_unique b d r s k.1 in
    (ap₂ Range k.0 l.0, l.1)
unique (PeekSlice a b) (PeekSlice c d) r s h =
    let k = int_unique a c (option_key b ++ r) (option_key d ++ s) (moved (int_key a) (option_key b) r (int_key c) (option_key d) s (ap others h)) in
    let l = option_unique b d r s k.1 in
    (ap₂ PeekSlice k.0 l.0, l.1)
unique (PosPred x) (PosPred y) r s h = let k = unique x y r s (ap others h) in (ap PosPred k.0, k.1)
unique (NegPred x) (NegPred y) r s h = let k = unique x y r s (ap others h) in (ap NegPred k.0, k.1)
unique (Seq a b) (Seq c d) r s h =
    let k = unique a c (key b ++ r) (key d ++ s) (moved (key a) (key b) r (key c) (key d) s (ap others h)) in
    let l = unique b d r s k.1 in
    (ap₂ Seq k.0 l.0, l.1)
unique (Choice a b) (Choice c d) r s h =
    let k = unique a c (key b ++ r) (key d ++ s) (moved (key a) (key b) r (key c) (key d) s (ap others h)) in
    let l = unique b d r s k.1 in
    (ap₂ Choice k.0 l.0, l.1)
unique (Opt x) (Opt y) r s h = let k = unique x y r s (ap others h) in (ap Opt k.0, k.1)
unique (Rep x) (Rep y) r s h = let k = unique x y r s (ap others h) in (ap Rep k.0, k.1)
unique (RepOnce x) (RepOnce y) r s h = let k = unique x y r s (ap others h) in (ap RepOnce k.0, k.1)
unique (RepExact x m) (RepExact y n) r s h =
    let k = unique x y r s (ap others (ap others h)) in
    (ap₂ RepExact k.0 (ap first (ap others h)), k.1)
unique (RepMin x m) (RepMin y n) r s h =
    let k = unique x y r s (ap others (ap others h)) in
    (ap₂ RepMin k.0 (ap first (ap others h)), k.1)
unique (RepMax x m) (RepMax y n) r s h =
    let k = unique x y r s (ap others (ap others h)) in
    (ap₂ RepMax k.0 (ap first (ap others h)), k.1)
unique (RepMinMax x m p) (RepMinMax y n q) r s h =
    let k = unique x y r s (ap others (ap others (ap others h))) in
    let i : RepMinMax x m p ≡ RepMinMax y n p = ap₂ (λ e i. RepMinMax e i p) k.0 (ap first (ap others h)) in
    (i ∙ ap (RepMinMax y n) (ap first (ap others (ap others h))), k.1)
unique (Push x) (Push y) r s h = let k = unique x y r s (ap others h) in (ap Push k.0, k.1)
unique (NodeTag x t) (NodeTag y u) r s h =
    let k = text_unique t u (key x ++ r) (key y ++ s) (moved (text_key t) (key x) r (text_key u) (key y) s (ap others h)) in
    let l = unique x y r s k.1 in
    (ap₂ NodeTag l.0 k.0, l.1)
unique (Skip ts) (Skip us) r s h = let k = texts_unique ts us r s (ap others h) in (ap Skip k.0, k.1)
unique (RestoreOnErr x) (RestoreOnErr y) r s h = let k = unique x y r s (ap others h) in (ap RestoreOnErr k.0, k.1)
unique a b r s h = absurd (eqb-false (first (key a ++ r)) (first (key b ++ s)) refl (ap first h))

key_unique : (a b : Expression) → key a ≡ key b → a ≡ b
key_unique a b h = (unique a b [] [] (append-nil (key a) ∙ (h ∙ sym (append-nil (key b))))).0

pub keys_decide : (k l : List ℕ) → Decides (pointwise nat_eq k l) (k ≡ l)
keys_decide k l = slice_eq-Decides unsigned_Decides k l (pointwise nat_eq k l) refl

pub same_answer : (b c : Bool) → (b ≡ true → c ≡ true) → (c ≡ true → b ≡ true) → b ≡ c
same_answer true true h k = refl
same_answer false false h k = refl
same_answer true false h k = sym (h refl)
same_answer false true h k = k refl

-- comparing keys is comparing expressions
pub same_keys : (a b : Expression) → pointwise nat_eq (key a) (key b) ≡ expression_eq a b
same_keys a b =
    same_answer (pointwise nat_eq (key a) (key b)) (expression_eq a b)
    (λ h. (expression_eq-Decides a b).1 (key_unique a b ((keys_decide (key a) (key b)).0 h)))
    (λ h. (keys_decide (key a) (key b)).1 (ap key ((expression_eq-Decides a b).0 h)))

-- a key by the signs of all nodes
unary_key : (f : Unary) (e : Expression) → unary_sign f ++ key e ≡ key (round f e)
unary_key spanned.PosPred e = refl
unary_key spanned.NegPred e = refl
unary_key spanned.Opt e = refl
unary_key spanned.Rep e = refl
unary_key spanned.RepOnce e = refl
unary_key (spanned.RepExact n) e = refl
unary_key (spanned.RepMin m) e = refl
unary_key (spanned.RepMax n) e = refl
unary_key (spanned.RepMinMax m n) e = refl
unary_key spanned.Push e = refl
unary_key (spanned.Tag t) e = refl

both_keys : (x y : Spanned) (k l : List ℕ) → flat_map sign (preorder x) ≡ k → flat_map sign (preorder y) ≡ l → flat_map sign (preorder x ++ preorder y) ≡ k ++ l
both_keys x y k l h i = flat_map-append sign (preorder x) (preorder y) ∙ ap₂ (λ m n. m ++ n) h i

pub signs_are_key : (x : Spanned) → flat_map sign (preorder x) ≡ key (without_spans x)
signs_are_key (Leaf s e) = append-nil (key e)
signs_are_key (One s f x) = ap (λ k. unary_sign f ++ k) (signs_are_key x) ∙ unary_key f (without_spans x)
signs_are_key (Two s spanned.Seq x y) = ap (λ k. 9 ∷ k) (both_keys x y (key (without_spans x)) (key (without_spans y)) (signs_are_key x) (signs_are_key y))
signs_are_key (Two s spanned.Choice x y) = ap (λ k. 10 ∷ k) (both_keys x y (key (without_spans x)) (key (without_spans y)) (signs_are_key x) (signs_are_key y))

-- the sign of a node comes first
sign_first : (x : Spanned) → (t : List ℕ) × (flat_map sign (preorder x) ≡ sign x ++ t)
sign_first (Leaf s e) = ([], refl)
sign_first (One s f x) = (flat_map sign (preorder x), refl)
sign_first (Two s f x y) = (flat_map sign (preorder x ++ preorder y), refl)

-- the numbers so far are the front of a key that is too long
pub too_long : (x : Spanned) (old new : List ℕ) (w v : List Spanned) (whole : List ℕ) → new ≡ old ++ sign x → w ≡ preorder x ++ v → old ++ flat_map sign w ≡ whole → 256 < length new → 256 < length whole
too_long x old new w v whole e h i k =
    let t = sign_first x in
    let p : flat_map sign w ≡ (sign x ++ t.0) ++ flat_map sign v = ap (flat_map sign) h ∙ (flat_map-append sign (preorder x) v ∙ ap (λ l. l ++ flat_map sign v) t.1) in
    let q : old ++ flat_map sign w ≡ new ++ (t.0 ++ flat_map sign v) =
    ap (λ l. old ++ l) (p ∙ append_assoc (sign x) t.0 (flat_map sign v))
    ∙ (sym (append_assoc old (sign x) (t.0 ++ flat_map sign v)) ∙ ap (λ l. l ++ (t.0 ++ flat_map sign v)) (sym e))
    in
    let n = ap length (sym i ∙ q) ∙ length-append new (t.0 ++ flat_map sign v) in
    omega arith

-- the numbers of a text's characters, and 0
pub characters_key : (t : Text) → map (λ c. c + 1) t ++ 0 ∷ [] ≡ text_key t
characters_key [] = refl
characters_key (c ∷ t) = let e : c + 1 ≡ suc c = omega arith in ap₂ (λ x y. x ∷ y) e (characters_key t)

-- no more numbers than allowed
pub not_longer : (k l : List ℕ) → k ≡ l → length k ≤ 256 → 256 < length l → ⊥
not_longer k l e h i = let n = ap length e in omega arith

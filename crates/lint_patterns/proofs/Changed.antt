-- What the listing leaves as it is has no list.
use Rattle.std.proofs.Common.{◌≡◌, ◌≢◌, ◌∙◌, ℕ, ◌+◌, Bool, true, false, ◌++◌, ◌&&◌, ◌||◌, if◌then◌else◌, refl, sym, ap, ap₂, arith}
use Rattle.std.specs.Prelude.{not}
use Rattle.std.specs.List.{list_any}
use Rattle.std.proofs.lemmas.List.Folds.{list_any-append}
use Rattle.base_language.specs.Language.Expression.{Expression, PosPred, NegPred, Seq, Choice, Opt, Rep, RepOnce, RepExact, RepMin, RepMax, RepMinMax, Push, NodeTag, RestoreOnErr}
use Rattle.base_language.specs.Language.Text.{Text}
use Rattle.base_language.specs.Rewritings.Equality.{expression_eq, expression_eq-Decides}
use Rattle.base_language.specs.Rewritings.Listing.{listed, listed_sequence}
use Rattle.lint_patterns.specs.Rewritten.{cannot_fail, has_list, is_list, parts}

-- the number of nodes
abbrev size : Expression → ℕ
size (PosPred e) = 1 + size e
size (NegPred e) = 1 + size e
size (Seq a b) = 1 + (size a + size b)
size (Choice a b) = 1 + (size a + size b)
size (Opt e) = 1 + size e
size (Rep e) = 1 + size e
size (RepOnce e) = 1 + size e
size (RepExact e n) = 1 + size e
size (RepMin e m) = 1 + size e
size (RepMax e n) = 1 + size e
size (RepMinMax e m n) = 1 + size e
size (Push e) = 1 + size e
size (NodeTag e t) = 1 + size e
size (RestoreOnErr e) = 1 + size e
size e = 1

sequence-size : (a b : Expression) → size (listed_sequence a b) ≡ 1 + (size a + size b)
sequence-size (Rep (Seq x y)) z =
    elim (expression_eq x z) as (λ t. expression_eq x z ≡ t → size (if t then Seq x (Rep (Seq y x)) else Seq (Rep (Seq x y)) z) ≡ 1 + (size (Rep (Seq x y)) + size z)) [
      | true ↦ λ e. let same = ap size ((expression_eq-Decides x z).0 e) in omega arith
      | false ↦ λ e. refl
    ] refl
sequence-size a b = refl

listed-size : (e : Expression) → size (listed e) ≡ size e
listed-size (PosPred e) = ap (λ n. 1 + n) (listed-size e)
listed-size (NegPred e) = ap (λ n. 1 + n) (listed-size e)
listed-size (Seq a b) = sequence-size (listed a) (listed b) ∙ ap₂ (λ m n. 1 + (m + n)) (listed-size a) (listed-size b)
listed-size (Choice a b) = ap₂ (λ m n. 1 + (m + n)) (listed-size a) (listed-size b)
listed-size (Opt e) = ap (λ n. 1 + n) (listed-size e)
listed-size (Rep e) = ap (λ n. 1 + n) (listed-size e)
listed-size (RepOnce e) = ap (λ n. 1 + n) (listed-size e)
listed-size (RepExact e i) = ap (λ n. 1 + n) (listed-size e)
listed-size (RepMin e i) = ap (λ n. 1 + n) (listed-size e)
listed-size (RepMax e i) = ap (λ n. 1 + n) (listed-size e)
listed-size (RepMinMax e i j) = ap (λ n. 1 + n) (listed-size e)
listed-size (Push e) = ap (λ n. 1 + n) (listed-size e)
listed-size (NodeTag e t) = ap (λ n. 1 + n) (listed-size e)
listed-size (RestoreOnErr e) = ap (λ n. 1 + n) (listed-size e)
listed-size e = refl

left_bigger : (x y : Expression) (n : ℕ) → size (Rep (Seq x y)) ≡ n → size x ≡ n → ⊥
left_bigger x y n h k = omega arith

-- a listed sequence that is a sequence of these operands was one of them
same_operands : (p q a b : Expression) → listed_sequence p q ≡ Seq a b → size p ≡ size a → (p ≡ a) × (q ≡ b)
same_operands (Rep (Seq x y)) q a b h k =
    elim (expression_eq x q) as (λ t. (if t then Seq x (Rep (Seq y x)) else Seq (Rep (Seq x y)) q) ≡ Seq a b → (Rep (Seq x y) ≡ a) × (q ≡ b)) [
      | true ↦ λ m. let first : x ≡ a = cc in absurd (left_bigger x y (size a) k (ap size first))
      | false ↦ λ m. let left : Rep (Seq x y) ≡ a = cc in let right : q ≡ b = cc in (left, right)
    ] h
same_operands p q a b h k = let left : p ≡ a = cc in let right : q ≡ b = cc in (left, right)

and_false : (b : Bool) → (b && false) ≡ false
and_false true = refl
and_false false = refl

-- a sequence that the listing leaves is no list
no_list : (f : Text → Bool) (a b : Expression) → listed_sequence a b ≡ Seq a b → is_list f (Seq a b) ≡ false
no_list f (Rep (Seq x y)) b h =
    elim (expression_eq x b) as (λ t. (if t then Seq x (Rep (Seq y x)) else Seq (Rep (Seq x y)) b) ≡ Seq (Rep (Seq x y)) b → (not (cannot_fail f x) && t) ≡ false) [
      | true ↦ λ m. let first : x ≡ Rep (Seq x y) = cc in absurd (left_bigger x y (size x) (sym (ap size first)) refl)
      | false ↦ λ m. and_false (not (cannot_fail f x))
    ] h
no_list f a b h = refl

both_none : (f : Text → Bool) (a b : Expression) → has_list f a ≡ false → has_list f b ≡ false → list_any (is_list f) (parts a ++ parts b) ≡ false
both_none f a b h k = list_any-append (is_list f) (parts a) (parts b) ∙ ap₂ (λ x y. x || y) h k

none_left : (f : Text → Bool) (e : Expression) → listed e ≡ e → has_list f e ≡ false
none_left f (PosPred e) h = let k : listed e ≡ e = cc in none_left f e k
none_left f (NegPred e) h = let k : listed e ≡ e = cc in none_left f e k
none_left f (Seq a b) h =
    let p = same_operands (listed a) (listed b) a b h (listed-size a) in
    let here = no_list f a b (ap₂ listed_sequence (sym p.0) (sym p.1) ∙ h) in
    ap₂ (λ x y. x || y) here (both_none f a b (none_left f a p.0) (none_left f b p.1))
none_left f (Choice a b) h =
    let k : listed a ≡ a = cc in
    let l : listed b ≡ b = cc in
    both_none f a b (none_left f a k) (none_left f b l)
none_left f (Opt e) h = let k : listed e ≡ e = cc in none_left f e k
none_left f (Rep e) h = let k : listed e ≡ e = cc in none_left f e k
none_left f (RepOnce e) h = let k : listed e ≡ e = cc in none_left f e k
none_left f (RepExact e i) h = let k : listed e ≡ e = cc in none_left f e k
none_left f (RepMin e i) h = let k : listed e ≡ e = cc in none_left f e k
none_left f (RepMax e i) h = let k : listed e ≡ e = cc in none_left f e k
none_left f (RepMinMax e i j) h = let k : listed e ≡ e = cc in none_left f e k
none_left f (Push e) h = let k : listed e ≡ e = cc in none_left f e k
none_left f (NodeTag e t) h = let k : listed e ≡ e = cc in none_left f e k
none_left f (RestoreOnErr e) h = let k : listed e ≡ e = cc in none_left f e k
none_left f e h = refl

true_is_not_false : true ≡ false → ⊥
true_is_not_false h = cc

pub changed : (f : Text → Bool) (e : Expression) → has_list f e ≡ true → listed e ≢ e
changed f e h k = let z : true ≡ false = sym h ∙ none_left f e k in absurd (true_is_not_false z)

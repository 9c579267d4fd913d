-- Marks as a binary number.
use Rattle.std.proofs.Common.{◌≡◌, ℕ, zero, suc, ◌*◌, ◌/◌, ◌%◌, ◌<◌, ◌≤◌, List, [], ◌∷◌, Bool, true, false, not, ◌&&◌, refl, sym, ◌∙◌, ap, arith, length, if◌then◌else◌, nat_eq, nat_le, eq-eqb}
use Rattle.std.proofs.lemmas.Bool.{ne_eqb, leb-true, le-leb}
use Rattle.front_stack_domain.specs.Stack.{Base, Empty, Blank, Any, is_any, blank_above, AbstractStack, unknown, some_blank, push_mark, join, common, both_marks, all_blank, marks_eq, bool_eq}
use Rattle.front_stack_domain.specs.Marks.{room, marks_of, blank_marks}

some_room : (k : ℕ) → 1 ≤ room k
some_room zero = omega arith
some_room (suc k) = let i = some_room k in omega arith

pub room_grows : (n k : ℕ) → n ≤ k → room n ≤ room k
room_grows zero k h = some_room k
room_grows (suc n) zero h = absurd (omega arith)
room_grows (suc n) (suc k) h = let i = room_grows n k (omega arith) in omega arith

pub length-marks_of : (n b : ℕ) → length (marks_of n b) ≡ n
length-marks_of zero b = refl
length-marks_of (suc n) b = ap suc (length-marks_of n (b / 2))

pub blank_same : (ms : List Bool) (b : Base) → blank_marks ms (not (is_any b)) ≡ blank_above ms b
blank_same [] Empty = refl
blank_same [] Blank = refl
blank_same [] Any = refl
blank_same (m ∷ ms) b = ap (λ x. m && x) (blank_same ms b)

-- lists of other lengths are other lists
pub other_lengths : (ms ns : List Bool) → (length ms ≡ length ns → ⊥) → marks_eq ms ns ≡ false
other_lengths [] [] e = absurd (e refl)
other_lengths [] (n ∷ ns) e = refl
other_lengths (m ∷ ms) [] e = refl
other_lengths (m ∷ ms) (n ∷ ns) e = go (bool_eq m n) (other_lengths ms ns (λ h. e (ap suc h)))
  where
    go : (b : Bool) → marks_eq ms ns ≡ false → (b && marks_eq ms ns) ≡ false
    go true h = h
    go false h = refl

-- marks that are counted differently have other lengths
pub other_counts : (n k b c : ℕ) → (n ≡ k → ⊥) → length (marks_of n b) ≡ length (marks_of k c) → ⊥
other_counts n k b c e h = e (sym (length-marks_of n b) ∙ h ∙ length-marks_of k c)

pub bits_product : (x y : ℕ) → (x % 2) * (y % 2) ≤ 1
bits_product x y = go (x % 2) (y % 2) (omega arith) (omega arith)
  where
    go : (x y : ℕ) → x < 2 → y < 2 → x * y ≤ 1
    go zero y h k = omega arith
    go (suc zero) y h k = omega arith
    go (suc (suc x)) y h k = absurd (omega arith)

abbrev stack : Base → List Bool → Bool → AbstractStack
stack b ms i = record { base = b; marks = ms; intact = i }

pub pushed_few : (b : Base) (i m : Bool) (n : ℕ) (ms ns : List Bool) → length ms ≡ n → n < 8 → ns ≡ m ∷ ms → stack b ns i ≡ push_mark m (stack b ms i)
pushed_few b i m n ms ns e h f = go (nat_le 8 (length ms)) refl
  where
    go : (x : Bool) → nat_le 8 (length ms) ≡ x → stack b ns i ≡ (if x then unknown else stack b (m ∷ ms) i)
    go true t = let l = leb-true 8 (length ms) t in absurd (omega arith)
    go false t = ap (λ l. stack b l i) f

pub pushed_many : (b : Base) (i m : Bool) (n : ℕ) (ms : List Bool) → length ms ≡ n → 8 ≤ n → unknown ≡ push_mark m (stack b ms i)
pushed_many b i m n ms e h = go (nat_le 8 (length ms)) (le-leb 8 (length ms) (omega arith))
  where
    go : (x : Bool) → x ≡ true → unknown ≡ (if x then unknown else stack b (m ∷ ms) i)
    go true t = refl
    go false t = cc

joined_same : (a b : AbstractStack) → length a.marks ≡ length b.marks → stack (common a.base b.base) (both_marks a.marks b.marks) (a.intact && b.intact) ≡ join a b
joined_same a b e = go (nat_eq (length a.marks) (length b.marks)) (eq-eqb _ _ e)
  where
    go : (x : Bool) → x ≡ true → stack (common a.base b.base) (both_marks a.marks b.marks) (a.intact && b.intact) ≡ (if x then stack (common a.base b.base) (both_marks a.marks b.marks) (a.intact && b.intact) else (if all_blank a && all_blank b then some_blank else unknown))
    go true t = refl
    go false t = cc

pub joined_other : (a b : AbstractStack) (y : Bool) → (length a.marks ≡ length b.marks → ⊥) → (all_blank a && all_blank b) ≡ y → (if y then some_blank else unknown) ≡ join a b
joined_other a b y n e = go (nat_eq (length a.marks) (length b.marks)) (ne_eqb _ _ n)
  where
    go : (x : Bool) → x ≡ false → (if y then some_blank else unknown) ≡ (if x then stack (common a.base b.base) (both_marks a.marks b.marks) (a.intact && b.intact) else (if all_blank a && all_blank b then some_blank else unknown))
    go true t = cc
    go false t = ap (λ z. if z then some_blank else unknown) (sym e)

pub joined_is : (a b : AbstractStack) (c : Base) (ms : List Bool) (i : Bool) → length a.marks ≡ length b.marks → c ≡ common a.base b.base → ms ≡ both_marks a.marks b.marks → i ≡ (a.intact && b.intact) → stack c ms i ≡ join a b
joined_is a b c ms i e f h k = (let q : stack c ms i ≡ stack (common a.base b.base) (both_marks a.marks b.marks) (a.intact && b.intact) = λ x. stack (f x) (h x) (k x) in q) ∙ joined_same a b e

-- How many abstract stacks there are.
use Rattle.std.proofs.Common.{◌≡◌, inl, inr, ℕ, zero, suc, ◌+◌, ◌*◌, ◌≤◌, ◌<◌, List, [], ◌∷◌, map, Bool, true, false, refl, length, eqb, arith}
use Rattle.std.specs.List.{AllByRecursion, IsDistinct, list_any}
use Rattle.std.proofs.lemmas.Bool.{eqb-true, ne_eqb, or_cases}
use Rattle.std.proofs.lemmas.List.{length-map}
use Rattle.std.proofs.lemmas.Map.Steps.{length-le_from_distinct_below}
use Rattle.front_stack_domain.specs.Marks.{room}
use Rattle.front_stack_domain.specs.Stack.{In, Base, Empty, Blank, Any, AbstractStack}
use Rattle.front_stack_domain.specs.Turns.{HasFewMarks, most_stacks, AreDistinct}

-- lists of marks have numbers, the shorter ones lower ones
abbrev number_of : List Bool → ℕ
number_of [] = 0
number_of (true ∷ ms) = number_of ms + number_of ms + 2
number_of (false ∷ ms) = number_of ms + number_of ms + 1

room_positive : (n : ℕ) → 0 < room n
room_positive zero = omega arith
room_positive (suc n) = let h = room_positive n in omega arith

number_below : (n : ℕ) (ms : List Bool) → length ms ≤ n → number_of ms + 2 ≤ room (suc n)
number_below n [] h = let p = room_positive n in omega arith
number_below zero (m ∷ ms) h = absurd (omega arith)
number_below (suc n) (true ∷ ms) h = let p = number_below n ms (omega arith) in omega arith
number_below (suc n) (false ∷ ms) h = let p = number_below n ms (omega arith) in omega arith

same_marks : (ms ns : List Bool) → number_of ms ≡ number_of ns → ms ≡ ns
same_marks [] [] h = refl
same_marks [] (true ∷ ns) h = absurd (omega arith)
same_marks [] (false ∷ ns) h = absurd (omega arith)
same_marks (true ∷ ms) [] h = absurd (omega arith)
same_marks (false ∷ ms) [] h = absurd (omega arith)
same_marks (true ∷ ms) (true ∷ ns) h = let e = same_marks ms ns (omega arith) in cc
same_marks (true ∷ ms) (false ∷ ns) h = absurd (omega arith)
same_marks (false ∷ ms) (true ∷ ns) h = absurd (omega arith)
same_marks (false ∷ ms) (false ∷ ns) h = let e = same_marks ms ns (omega arith) in cc

abbrev base_number : Base → ℕ
base_number Empty = 0
base_number Blank = 1
base_number Any = 2

base_below : (b : Base) → base_number b ≤ 2
base_below Empty = omega arith
base_below Blank = omega arith
base_below Any = omega arith

same_base : (b c : Base) → base_number b ≡ base_number c → b ≡ c
same_base Empty Empty h = refl
same_base Empty Blank h = absurd (omega arith)
same_base Empty Any h = absurd (omega arith)
same_base Blank Empty h = absurd (omega arith)
same_base Blank Blank h = refl
same_base Blank Any h = absurd (omega arith)
same_base Any Empty h = absurd (omega arith)
same_base Any Blank h = absurd (omega arith)
same_base Any Any h = refl

abbrev flag_number : Bool → ℕ
flag_number false = 0
flag_number true = 1

flag_below : (b : Bool) → flag_number b ≤ 1
flag_below false = omega arith
flag_below true = omega arith

same_flag : (b c : Bool) → flag_number b ≡ flag_number c → b ≡ c
same_flag false false h = refl
same_flag false true h = absurd (omega arith)
same_flag true false h = absurd (omega arith)
same_flag true true h = refl

abbrev stack_number : AbstractStack → ℕ
stack_number a = (number_of a.marks * 3 + base_number a.base) * 2 + flag_number a.intact

stack_below : (a : AbstractStack) → HasFewMarks a → stack_number a < most_stacks
stack_below a h =
    let p : number_of a.marks + 2 ≤ 512 = number_below 8 a.marks h in
    let q = base_below a.base in
    let r = flag_below a.intact in omega arith

same_stack : (a b : AbstractStack) → stack_number a ≡ stack_number b → a ≡ b
same_stack a b h =
    let p = base_below a.base in
    let q = base_below b.base in
    let r = flag_below a.intact in
    let s = flag_below b.intact in
    let e = same_marks a.marks b.marks (omega arith) in
    let f = same_base a.base b.base (omega arith) in
    let l = same_flag a.intact b.intact (omega arith) in
    λ i. record { base = f i; marks = e i; intact = l i }

all_below : (bs : List AbstractStack) → ((a : AbstractStack) → In a bs → HasFewMarks a) → (q : ℕ) → list_any (eqb q) (map stack_number bs) ≡ true → q < most_stacks
all_below [] few q h = cc
all_below (a ∷ bs) few q h = elim (or_cases (eqb q (stack_number a)) (list_any (eqb q) (map stack_number bs)) h) [
  | inl e ↦ let f = eqb-true q (stack_number a) e in let p = stack_below a (few a (inl refl)) in omega arith
  | inr e ↦ all_below bs (λ b i. few b (inr i)) q e
]

other_numbers : (a : AbstractStack) (bs : List AbstractStack) → (In a bs → ⊥) → AllByRecursion (λ y. eqb (stack_number a) y ≡ false) (map stack_number bs)
other_numbers a [] n = tt
other_numbers a (b ∷ bs) n = (ne_eqb (stack_number a) (stack_number b) (λ e. n (inl (same_stack a b e))), other_numbers a bs (λ i. n (inr i)))

distinct_numbers : (bs : List AbstractStack) → AreDistinct bs → IsDistinct eqb (map stack_number bs)
unfolding IsDistinct
distinct_numbers [] d = tt
distinct_numbers (a ∷ bs) d = (other_numbers a bs d.0, distinct_numbers bs d.1)

-- a list of stacks that differ is no longer than there are stacks
pub stacks_are_few : (bs : List AbstractStack) → ((a : AbstractStack) → In a bs → HasFewMarks a) → AreDistinct bs → length bs ≤ most_stacks
stacks_are_few bs few d =
    let h : length (map stack_number bs) ≤ most_stacks = length-le_from_distinct_below (map stack_number bs) most_stacks (distinct_numbers bs d) (all_below bs few) in
    let e : length (map stack_number bs) ≡ length bs = length-map bs stack_number in omega arith

-- What the operations on abstract stacks describe.
use Rattle.std.proofs.Common.{◌≡◌, inl, inr, List, [], ◌∷◌, Bool, true, false, ◌&&◌, if◌then◌else◌, Option, Some, None, refl, sym, length, nat_eq, nat_le, arith}
use Rattle.std.specs.Prelude.{⊤}
use Rattle.std.proofs.lemmas.Bool.{eqb-true, or_cases}
use Rattle.base_language.specs.Language.Text.{Text}
use Rattle.base_language.proofs.Basics.{first_of_both, second_of_both}
use Rattle.front_stack_domain.specs.Stack.{In, Base, Empty, Blank, Any, AbstractStack, AreBlank, Below, Marked, Above, Describes, unknown, blank_above, all_blank, push_mark, popped, common, both_marks, join, join_any, failed, bool_eq, base_eq, marks_eq, stack_eq, is_among, are_among}

below_left : (b c : Base) (ts : List Text) → Below b ts → Below (common b c) ts
below_left Empty Empty ts h = h
below_left Empty Blank [] h = tt
below_left Empty Blank (t ∷ ts) h = absurd h
below_left Blank Empty ts h = h
below_left Blank Blank ts h = h
below_left Empty Any ts h = tt
below_left Blank Any ts h = tt
below_left Any c ts h = tt

below_right : (b c : Base) (ts : List Text) → Below c ts → Below (common b c) ts
below_right Empty Empty ts h = h
below_right Empty Blank ts h = h
below_right Blank Empty [] h = tt
below_right Blank Empty (t ∷ ts) h = absurd h
below_right Blank Blank ts h = h
below_right Empty Any ts h = tt
below_right Blank Any ts h = tt
below_right Any c ts h = tt

marked_left : (m n : Bool) (t : Text) → Marked m t → Marked (m && n) t
marked_left true true t h = h
marked_left true false t h = tt
marked_left false n t h = tt

marked_right : (m n : Bool) (t : Text) → Marked n t → Marked (m && n) t
marked_right true n t h = h
marked_right false n t h = tt

above_left : (ms ns : List Bool) (b c : Base) (ts : List Text) → length ms ≡ length ns → Above ms b ts → Above (both_marks ms ns) (common b c) ts
above_left [] [] b c ts e h = below_left b c ts h
above_left [] (n ∷ ns) b c ts e h = cc
above_left (m ∷ ms) [] b c ts e h = cc
above_left (m ∷ ms) (n ∷ ns) b c [] e h = absurd h
above_left (m ∷ ms) (n ∷ ns) b c (t ∷ ts) e h = (marked_left m n t h.0, above_left ms ns b c ts (omega arith) h.1)

above_right : (ms ns : List Bool) (b c : Base) (ts : List Text) → length ms ≡ length ns → Above ns c ts → Above (both_marks ms ns) (common b c) ts
above_right [] [] b c ts e h = below_right b c ts h
above_right [] (n ∷ ns) b c ts e h = cc
above_right (m ∷ ms) [] b c ts e h = cc
above_right (m ∷ ms) (n ∷ ns) b c [] e h = absurd h
above_right (m ∷ ms) (n ∷ ns) b c (t ∷ ts) e h = (marked_right m n t h.0, above_right ms ns b c ts (omega arith) h.1)

pub blank_entries : (ms : List Bool) (b : Base) (ts : List Text) → blank_above ms b ≡ true → Above ms b ts → AreBlank ts
blank_entries [] Empty [] e h = tt
blank_entries [] Empty (t ∷ ts) e h = absurd h
blank_entries [] Blank ts e h = h
blank_entries [] Any ts e h = cc
blank_entries (true ∷ ms) b [] e h = absurd h
blank_entries (true ∷ ms) b (t ∷ ts) e h = (h.0, blank_entries ms b ts e h.1)
blank_entries (false ∷ ms) b ts e h = cc

pub joins_left : (a b : AbstractStack) (ts : List Text) → Describes a ts → Describes (join a b) ts
joins_left a b ts h = go (nat_eq (length a.marks) (length b.marks)) refl (all_blank a && all_blank b) refl
  where
    go : (x : Bool) → nat_eq (length a.marks) (length b.marks) ≡ x → (y : Bool) → (all_blank a && all_blank b) ≡ y → Describes (if x then record { base = common a.base b.base; marks = both_marks a.marks b.marks; intact = a.intact && b.intact } else (if y then record { base = Blank; marks = []; intact = false } else unknown)) ts
    go true e y f = above_left a.marks b.marks a.base b.base ts (eqb-true _ _ e) h
    go false e true f = blank_entries a.marks a.base ts (first_of_both _ _ f) h
    go false e false f = tt

pub joins_right : (a b : AbstractStack) (ts : List Text) → Describes b ts → Describes (join a b) ts
joins_right a b ts h = go (nat_eq (length a.marks) (length b.marks)) refl (all_blank a && all_blank b) refl
  where
    go : (x : Bool) → nat_eq (length a.marks) (length b.marks) ≡ x → (y : Bool) → (all_blank a && all_blank b) ≡ y → Describes (if x then record { base = common a.base b.base; marks = both_marks a.marks b.marks; intact = a.intact && b.intact } else (if y then record { base = Blank; marks = []; intact = false } else unknown)) ts
    go true e y f = above_right a.marks b.marks a.base b.base ts (eqb-true _ _ e) h
    go false e true f = blank_entries b.marks b.base ts (second_of_both _ _ f) h
    go false e false f = tt

-- a stack that may be impossible
abbrev pub Has : Option AbstractStack → List Text → Type 0
Has None ts = ⊥
Has (Some a) ts = Describes a ts

abbrev pub Can : Option AbstractStack → Type 0
Can None = ⊥
Can (Some a) = ⊤

pub either_left : (p q : Option AbstractStack) (ts : List Text) → Has p ts → Has (join_any p q) ts
either_left None q ts h = absurd h
either_left (Some a) None ts h = h
either_left (Some a) (Some b) ts h = joins_left a b ts h

pub either_right : (p q : Option AbstractStack) (ts : List Text) → Has q ts → Has (join_any p q) ts
either_right None q ts h = h
either_right (Some a) None ts h = absurd h
either_right (Some a) (Some b) ts h = joins_right a b ts h

pub has_failed : (q : Option AbstractStack) (a : AbstractStack) (ts : List Text) → Can q → Describes a ts → Has (failed q a) ts
has_failed None a ts c h = absurd c
has_failed (Some b) a ts c h = joins_right b a ts h

pub pushes : (m : Bool) (a : AbstractStack) (t : Text) (ts : List Text) → Marked m t → Describes a ts → Describes (push_mark m a) (t ∷ ts)
pushes m a t ts k h = go (nat_le 8 (length a.marks))
  where
    go : (x : Bool) → Describes (if x then unknown else record { base = a.base; marks = m ∷ a.marks; intact = a.intact }) (t ∷ ts)
    go true = tt
    go false = (k, h)

pub pops : (ms : List Bool) (b : Base) (i : Bool) (t : Text) (ts : List Text) → Above ms b (t ∷ ts) → Describes (popped ms b i) ts
pops (m ∷ ms) b i t ts h = h.1
pops [] Empty i t ts h = absurd h
pops [] Blank i t ts h = h.1
pops [] Any i t ts h = tt

-- equality
bools_same : (m n : Bool) → bool_eq m n ≡ true → m ≡ n
bools_same true n h = sym h
bools_same false true h = cc
bools_same false false h = refl

bases_same : (b c : Base) → base_eq b c ≡ true → b ≡ c
bases_same Empty Empty h = refl
bases_same Empty Blank h = cc
bases_same Empty Any h = cc
bases_same Blank Empty h = cc
bases_same Blank Blank h = refl
bases_same Blank Any h = cc
bases_same Any Empty h = cc
bases_same Any Blank h = cc
bases_same Any Any h = refl

pub marks_same : (ms ns : List Bool) → marks_eq ms ns ≡ true → ms ≡ ns
marks_same [] [] h = refl
marks_same [] (n ∷ ns) h = cc
marks_same (m ∷ ms) [] h = cc
marks_same (m ∷ ms) (n ∷ ns) h =
    let e = bools_same m n (first_of_both (bool_eq m n) (marks_eq ms ns) h) in
    let f = marks_same ms ns (second_of_both (bool_eq m n) (marks_eq ms ns) h) in cc

pub stacks_same : (a b : AbstractStack) → stack_eq a b ≡ true → a ≡ b
stacks_same a b h =
    let k = second_of_both (base_eq a.base b.base) (marks_eq a.marks b.marks && bool_eq a.intact b.intact) h in
    let e = bases_same a.base b.base (first_of_both (base_eq a.base b.base) (marks_eq a.marks b.marks && bool_eq a.intact b.intact) h) in
    let f = marks_same a.marks b.marks (first_of_both (marks_eq a.marks b.marks) (bool_eq a.intact b.intact) k) in
    let l = bools_same a.intact b.intact (second_of_both (marks_eq a.marks b.marks) (bool_eq a.intact b.intact) k) in
    λ i. record { base = e i; marks = f i; intact = l i }

pub among : (bs : List AbstractStack) (a : AbstractStack) → is_among bs a ≡ true → In a bs
among [] a h = cc
among (b ∷ bs) a h = elim (or_cases _ _ h) [ inl e ↦ inl (stacks_same a b e) | inr e ↦ inr (among bs a e) ]

pub marks_among : (nss : List (List Bool)) (ms : List Bool) → are_among nss ms ≡ true → In ms nss
marks_among [] ms h = cc
marks_among (ns ∷ nss) ms h = elim (or_cases _ _ h) [ inl e ↦ inl (marks_same ms ns e) | inr e ↦ inr (marks_among nss ms e) ]

-- The abstract domain: an abstract stack describes stacks of entries.
use Rattle.std.specs.Prelude.{◌≡◌, List, [], ◌∷◌, length, Option, Some, None, Bool, true, false, ◌&&◌, ◌||◌, if◌then◌else◌, nat_eq, nat_le, ⊤, ◌⊎◌}
use Rattle.base_language.specs.Language.Text.{Text}

-- x is an element of the list
abbrev pub In : {A : Type 0} → A → List A → Type 0
In x [] = ⊥
In x (y ∷ ys) = (x ≡ y) ⊎ In x ys

-- the entries below the marks: none, empty texts alone, any
pub data Base : Type 0 where
  Empty : Base
  Blank : Base
  Any : Base

-- a base, and marks for the entries above it, the top entry's first: true if the entry is the empty text,
-- false if that isn't known. `intact`: the entries below the marks were not touched
pub record AbstractStack : Type 0 where
  pub base : Base
  pub marks : List Bool
  pub intact : Bool

-- all are empty texts
abbrev pub AreBlank : List Text → Type 0
AreBlank [] = ⊤
AreBlank (t ∷ ts) = (t ≡ []) × AreBlank ts

-- a base describes the entries below the marks
abbrev pub Below : Base → List Text → Type 0
Below Empty [] = ⊤
Below Empty (t ∷ ts) = ⊥
Below Blank ts = AreBlank ts
Below Any ts = ⊤

-- a mark describes its entry
abbrev pub Marked : Bool → Text → Type 0
Marked true t = t ≡ []
Marked false t = ⊤

-- marks and a base describe the entries, from the top one on
abbrev pub Above : List Bool → Base → List Text → Type 0
Above [] b ts = Below b ts
Above (m ∷ ms) b [] = ⊥
Above (m ∷ ms) b (t ∷ ts) = Marked m t × Above ms b ts

-- a describes the stack ts
abbrev pub Describes : AbstractStack → List Text → Type 0
Describes a ts = Above a.marks a.base ts

-- the greatest element, which describes all stacks
abbrev pub unknown : AbstractStack
unknown = record { base = Any; marks = []; intact = false }

-- the stack at the start of a rule's body
abbrev pub entry : AbstractStack
entry = record { base = Any; marks = []; intact = true }

-- empty texts alone, possibly none
abbrev pub some_blank : AbstractStack
some_blank = record { base = Blank; marks = []; intact = false }

-- the stack at the point from which changes below the marks are watched
abbrev pub made_intact : AbstractStack → AbstractStack
made_intact a = record { base = a.base; marks = a.marks; intact = true }

abbrev pub is_any : Base → Bool
is_any Empty = false
is_any Blank = false
is_any Any = true

abbrev pub is_empty : Base → Bool
is_empty Empty = true
is_empty Blank = false
is_empty Any = false

-- whether all entries are certainly empty texts
abbrev pub blank_above : List Bool → Base → Bool
blank_above [] Any = false
blank_above [] Empty = true
blank_above [] Blank = true
blank_above (m ∷ ms) b = m && blank_above ms b

abbrev pub all_blank : AbstractStack → Bool
all_blank a = blank_above a.marks a.base

-- with one more mark; there are 8 at most, and nothing is known where a ninth would be needed
abbrev pub push_mark : Bool → AbstractStack → AbstractStack
push_mark m a =
    if nat_le 8 (length a.marks)
    then unknown
    else record { base = a.base; marks = m ∷ a.marks; intact = a.intact }

-- without the top entry, from marks, a base and the flag
abbrev pub popped : List Bool → Base → Bool → AbstractStack
popped (m ∷ ms) b i = record { base = b; marks = ms; intact = i }
popped [] Empty i = record { base = Empty; marks = []; intact = i }
popped [] Blank i = record { base = Blank; marks = []; intact = false }
popped [] Any i = unknown

abbrev pub pop_one : AbstractStack → AbstractStack
pop_one a = popped a.marks a.base a.intact

-- without any entry
abbrev pub pop_all : AbstractStack → AbstractStack
pop_all a = record { base = Empty; marks = []; intact = a.intact && is_empty a.base }

-- the base that both of two have in common
abbrev pub common : Base → Base → Base
common Empty Empty = Empty
common Empty Blank = Blank
common Blank Empty = Blank
common Blank Blank = Blank
common Empty Any = Any
common Blank Any = Any
common Any b = Any

-- an entry is known to be empty if both marks are set
abbrev pub both_marks : List Bool → List Bool → List Bool
both_marks (m ∷ ms) (n ∷ ns) = (m && n) ∷ both_marks ms ns
both_marks _ _ = []

-- the join of two abstract stacks, which describes all that either describes
abbrev pub join : AbstractStack → AbstractStack → AbstractStack
join a b =
    if nat_eq (length a.marks) (length b.marks)
    then record {
      base = common a.base b.base;
      marks = both_marks a.marks b.marks;
      intact = a.intact && b.intact;
    }
    else (if all_blank a && all_blank b then some_blank else unknown)

-- the join of two that may be impossible
abbrev pub join_any : Option AbstractStack → Option AbstractStack → Option AbstractStack
join_any None q = q
join_any (Some a) None = Some a
join_any (Some a) (Some b) = Some (join a b)

-- where a failure goes on: with the stack after it or with the one before
abbrev pub failed : Option AbstractStack → AbstractStack → Option AbstractStack
failed None a = None
failed (Some e) a = Some (join e a)

-- two are equal
abbrev pub bool_eq : Bool → Bool → Bool
bool_eq true b = b
bool_eq false true = false
bool_eq false false = true

abbrev pub base_eq : Base → Base → Bool
base_eq Empty b = is_empty b
base_eq Any b = is_any b
base_eq Blank Blank = true
base_eq Blank Empty = false
base_eq Blank Any = false

abbrev pub marks_eq : List Bool → List Bool → Bool
marks_eq [] [] = true
marks_eq (m ∷ ms) (n ∷ ns) = bool_eq m n && marks_eq ms ns
marks_eq [] (n ∷ ns) = false
marks_eq (m ∷ ms) [] = false

abbrev pub stack_eq : AbstractStack → AbstractStack → Bool
stack_eq a b = base_eq a.base b.base && (marks_eq a.marks b.marks && bool_eq a.intact b.intact)

abbrev pub is_among : List AbstractStack → AbstractStack → Bool
is_among [] a = false
is_among (b ∷ bs) a = stack_eq a b || is_among bs a

abbrev pub are_among : List (List Bool) → List Bool → Bool
are_among [] ms = false
are_among (ns ∷ nss) ms = marks_eq ms ns || are_among nss ms

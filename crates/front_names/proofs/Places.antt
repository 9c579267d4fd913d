-- Places, one after another, and the names that were met.
use Rattle.std.proofs.Common.{Result, Ok, Err, OnOk, ◌≡◌, ◌<◌, ◌≤◌, ◌+◌, List, [], ◌∷◌, ◌++◌, ℕ, Bool, true, false, not, cond, map, length, drop, get_or, refl, sym, ap, Bor, ◌∙◌, add-one, drop-cons, append_assoc}
use Rattle.std.specs.Prelude.{bytes_eq, ◌||◌, ◌&&◌, filter}
use Rattle.std.specs.HashSet as bag
use Rattle.std.proofs.lemmas.List.{map-append, drop_all}
use Rattle.std.proofs.Math.Bool.{or-false}
use Rattle.base_language.specs.Language.Text.{Text}
use Rattle.base_language.specs.Language.Builtins.{is_one_of}
use Rattle.base_language.specs.Pieces.Saying.{Span, Complaint, IsErrorAt, AreErrorsFor, piece_of, written}
use Rattle.base_language.specs.declared.grammar.Rule.{Rule}
use Rattle.base_language.specs.declared.runtime.errors.Error.{Error}
use Rattle.base_language.specs.declared.runtime.places.Span as code
use Rattle.front_names.specs.Messages.{about}
use Rattle.front_names.specs.declared.messages.NameProblem.{NameProblem}
use Rattle.front_names.specs.Names.{later_places, first_places, complaints, is_builtin, undefined_calls}
use Rattle.front_names.specs.NameSets.{NameSet, HasNames, is_outside}

-- the same text
abbrev pub same_text : Bor (List ℕ) → Bor (List ℕ) → Bool
same_text x y = bytes_eq x.now y.now

cond_true : (b c d : Bool) → c ≡ d → cond b true c ≡ (b || d)
cond_true true c d e = refl
cond_true false c d e = e

-- a set with one name more
pub has_more : (names : List Text) (old new : NameSet) (name : Bor (List ℕ)) → HasNames names old → bag.Updates same_text old new name true → HasNames (name.now ∷ names) new
has_more names old new name h u q = u.0 q ∙ cond_true (bytes_eq name.now q.now) _ _ (h q)

-- the places that are left, one by one
pub pieces_left : (places : List code.Span) (i : ℕ) (x : code.Span) → x ≡ get_or places i x → i < length places → map piece_of (drop i places) ≡ piece_of x ∷ map piece_of (drop (i + 1) places)
pieces_left places i x e h = rw (drop-cons places i x h, ← e, add-one) refl

pub none_left : (places : List code.Span) (i : ℕ) → length places ≤ i → map piece_of (drop i places) ≡ []
none_left places i h = rw (drop_all i places h) refl

-- a place whose name was met is a later one; another one isn't
pub later_one : (before : List Text) (place : Span) (places : List Span) → is_one_of before (written place) ≡ true → later_places before (place ∷ places) ≡ place ∷ later_places (written place ∷ before) places
later_one before place places e = rw e refl

pub later_none : (before : List Text) (place : Span) (places : List Span) → is_one_of before (written place) ≡ false → later_places before (place ∷ places) ≡ later_places (written place ∷ before) places
later_none before place places e = rw e refl

pub first_none : (before : List Text) (place : Span) (places : List Span) → is_one_of before (written place) ≡ true → first_places before (place ∷ places) ≡ first_places (written place ∷ before) places
first_none before place places e = rw e refl

pub first_one : (before : List Text) (place : Span) (places : List Span) → is_one_of before (written place) ≡ false → first_places before (place ∷ places) ≡ place ∷ first_places (written place ∷ before) places
first_one before place places e = rw e refl

-- one more that was found
pub push_piece : (found : List code.Span) (x : code.Span) (rest : List Span) → map piece_of (found ++ x ∷ []) ++ rest ≡ map piece_of found ++ piece_of x ∷ rest
push_piece found x rest = rw (map-append piece_of found (x ∷ []), append_assoc) refl

-- a place that is found, and one that isn't
pub later_more : (all : List Span) (before : List Text) (found : List code.Span) (x : code.Span) (rest others : List Span) → rest ≡ piece_of x ∷ others → is_one_of before (written (piece_of x)) ≡ true
    → all ≡ map piece_of found ++ later_places before rest → all ≡ map piece_of (found ++ x ∷ []) ++ later_places (written (piece_of x) ∷ before) others
later_more all before found x rest others e b a =
    a ∙ ap (λ r. map piece_of found ++ r) (ap (later_places before) e ∙ later_one before (piece_of x) others b)
    ∙ sym (push_piece found x (later_places (written (piece_of x) ∷ before) others))

pub later_less : (all : List Span) (before : List Text) (found : List code.Span) (x : code.Span) (rest others : List Span) → rest ≡ piece_of x ∷ others → is_one_of before (written (piece_of x)) ≡ false
    → all ≡ map piece_of found ++ later_places before rest → all ≡ map piece_of found ++ later_places (written (piece_of x) ∷ before) others
later_less all before found x rest others e b a =
    a ∙ ap (λ r. map piece_of found ++ r) (ap (later_places before) e ∙ later_none before (piece_of x) others b)

-- what an insertion tells of the set before it
pub was_there : (added had named : Bool) → added ≡ not had → added ≡ false → had ≡ named → named ≡ true
was_there added true named e h k = sym k
was_there added false named e h k = cc

pub was_not_there : (added had named : Bool) → added ≡ not had → added ≡ true → had ≡ named → named ≡ false
was_not_there added true named e h k = cc
was_not_there added false named e h k = sym k

-- a name goes over from the places that are left to the set
moved_over : (a b r : Bool) → (a || (b || r)) ≡ (cond b true a || r)
moved_over true true r = refl
moved_over true false r = refl
moved_over false true r = refl
moved_over false false r = refl

pub name_taken : (all : Bool) (old new : NameSet) (key name : Bor (List ℕ)) (x : Span) (rest others : List Span) → rest ≡ x ∷ others → key.now ≡ written x → bag.Updates same_text old new key true
    → all ≡ (bag.contains_by (λ k. bytes_eq name.now k.now) old || is_one_of (map written rest) name.now)
    → all ≡ (bag.contains_by (λ k. bytes_eq name.now k.now) new || is_one_of (map written others) name.now)
name_taken all old new key name x rest others e k u a =
    let had : Bool = bag.contains_by (λ k. bytes_eq name.now k.now) old in
    a ∙ ap (λ l. had || is_one_of (map written l) name.now) e
    ∙ moved_over had (bytes_eq (written x) name.now) (is_one_of (map written others) name.now)
    ∙ ap (λ b. b || is_one_of (map written others) name.now) (sym (u.0 name ∙ ap (λ m. cond (bytes_eq m name.now) true had) k))

pub all_taken : (all b : Bool) (name : List ℕ) (rest : List Span) → rest ≡ [] → all ≡ (b || is_one_of (map written rest) name) → b ≡ all
all_taken all b name rest e a = sym (a ∙ ap (λ l. b || is_one_of (map written l) name) e ∙ or-false b)

-- pieces that pass a test
cond_pieces : (b : Bool) (x : code.Span) (xs : List code.Span) → map piece_of (cond b (x ∷ xs) xs) ≡ cond b (piece_of x ∷ map piece_of xs) (map piece_of xs)
cond_pieces true x xs = refl
cond_pieces false x xs = refl

pub filter_pieces : (p : Span → Bool) (xs : List code.Span) → map piece_of (filter (λ x. p (piece_of x)) xs) ≡ filter p (map piece_of xs)
filter_pieces p [] = refl
filter_pieces p (x ∷ xs) =
    cond_pieces (p (piece_of x)) x (filter (λ x. p (piece_of x)) xs) ∙ ap (λ ys. cond (p (piece_of x)) (piece_of x ∷ ys) ys) (filter_pieces p xs)

-- the same test of all names
pub filter_same : (p q : Span → Bool) (xs : List Span) → ((x : Span) → p x ≡ q x) → filter p xs ≡ filter q xs
filter_same p q [] h = refl
filter_same p q (x ∷ xs) h = ap (λ b. cond b (x ∷ filter p xs) (filter p xs)) (h x) ∙ ap (λ ys. cond (q x) (x ∷ ys) ys) (filter_same p q xs h)

-- the calls outside a set of the defined names are undefined
pub outside_undefined : (definitions : List Span) (set : NameSet) → HasNames (map written definitions) set
    → (calls : List Span) → filter (is_outside set) calls ≡ undefined_calls definitions calls
outside_undefined definitions set has calls =
    filter_same (is_outside set) _ calls
    (λ place. ap (λ b. not b && not (is_builtin (written place))) (has (record { ref_ptr = (0, 0); now = written place })))

-- a first place, and one that isn't
pub first_more : (all before : List Text) (found : List (Bor (List ℕ))) (name : Bor (List ℕ)) (x : Span) (rest others : List Span) → rest ≡ x ∷ others → name.now ≡ written x → is_one_of before (written x) ≡ false
    → all ≡ map (λ t. t.now) found ++ map written (first_places before rest) → all ≡ map (λ t. t.now) (found ++ name ∷ []) ++ map written (first_places (written x ∷ before) others)
first_more all before found name x rest others e k b a =
    let now : Bor (List ℕ) → List ℕ = λ t. t.now in
    let behind : List Text = map written (first_places (written x ∷ before) others) in
    a ∙ ap (λ r. map now found ++ map written r) (ap (first_places before) e ∙ first_one before x others b)
    ∙ sym (ap (λ l. l ++ behind) (map-append now found (name ∷ [])) ∙ append_assoc (map now found) (name.now ∷ []) behind ∙ ap (λ n. map now found ++ n ∷ behind) k)

pub first_less : (all before : List Text) (found : List (Bor (List ℕ))) (x : Span) (rest others : List Span) → rest ≡ x ∷ others → is_one_of before (written x) ≡ true
    → all ≡ map (λ t. t.now) found ++ map written (first_places before rest) → all ≡ map (λ t. t.now) found ++ map written (first_places (written x ∷ before) others)
first_less all before found x rest others e b a =
    let now : Bor (List ℕ) → List ℕ = λ t. t.now in
    a ∙ ap (λ r. map now found ++ map written r) (ap (first_places before) e ∙ first_none before x others b)

-- one more error, at the first of the places that are left
pub told_more : (problem : NameProblem) (all : List Complaint) (rest others : List Span) (x : Span) (errors : List (Error Rule)) (e : Error Rule) → rest ≡ x ∷ others → IsErrorAt (about problem (written x)) x e
    → ((more : List (Error Rule)) → AreErrorsFor (complaints problem rest) more → AreErrorsFor all (errors ++ more))
    → (more : List (Error Rule)) → AreErrorsFor (complaints problem others) more → AreErrorsFor all ((errors ++ e ∷ []) ++ more)
told_more problem all rest others x errors e left s told more t = rw append_assoc (told (e ∷ more) (rw left (s, t)))

-- errors are told where there is something to say
pub tell_none : (xs : List Complaint) (es : List (Error Rule)) → AreErrorsFor xs es → es ≡ [] → xs ≡ []
tell_none [] es h e = refl
tell_none (x ∷ xs) [] h e = absurd h
tell_none (x ∷ xs) (f ∷ es) h e = cc

pub on_ok : {X Y : Type 0} (r : Result X Y) (P : Type 0) → P → OnOk r P
on_ok (Ok x) P p = p
on_ok (Err e) P p = tt

-- Places that are all in one text.
use Rattle.std.proofs.Common.{◌≡◌, List, [], ◌∷◌, ◌++◌, ℕ, Bool, true, false, cond, refl}
use Rattle.std.specs.Prelude.{bytes_eq, filter, codes}
use Rattle.base_language.specs.Language.Text.{Text}
use Rattle.base_language.specs.Language.State.{Trees, None', Tree}
use Rattle.base_language.specs.Language.Builtins.{is_one_of}
use Rattle.base_language.specs.Pieces.Saying.{Span, written}
use Rattle.front_names.specs.GrammarNames.{own_name, names_in, defined_by, called_by, definitions, calls}
use Rattle.front_names.specs.Names.{AreIn, later_places}

in_both : (text : List ℕ) (xs ys : List Span) → AreIn text xs → AreIn text ys → AreIn text (xs ++ ys)
in_both text [] ys h k = k
in_both text (x ∷ xs) ys h k = (h.0, in_both text xs ys h.1 k)

keep_if : (text : List ℕ) (b : Bool) (x : Span) (xs : List Span) → x.text ≡ text → AreIn text xs → AreIn text (cond b (x ∷ xs) xs)
keep_if text true x xs here h = (here, h)
keep_if text false x xs here h = h

pub filtered_in : (text : List ℕ) (p : Span → Bool) (xs : List Span) → AreIn text xs → AreIn text (filter p xs)
filtered_in text p [] h = tt
filtered_in text p (x ∷ xs) h = keep_if text (p x) x (filter p xs) h.0 (filtered_in text p xs h.1)

pub later_in : (text : List ℕ) (before : List Text) (xs : List Span) → AreIn text xs → AreIn text (later_places before xs)
later_in text before [] h = tt
later_in text before (x ∷ xs) h = keep_if text (is_one_of before (written x)) x (later_places (written x ∷ before) xs) h.0 (later_in text (written x ∷ before) xs h.1)

if_in : (text : List ℕ) (b : Bool) (xs : List Span) → AreIn text xs → AreIn text (cond b xs [])
if_in text true xs h = h
if_in text false xs h = tt

own_in : (text : List ℕ) (r : Text) (i j : ℕ) → AreIn text (own_name text r i j)
own_in text r i j = if_in text (bytes_eq r (codes "identifier")) _ (refl, tt)

names_in_text : (text : List ℕ) (trees : Trees) → AreIn text (names_in text trees)
names_in_text text None' = tt
names_in_text text (Tree r i j inner others) =
    in_both text _ _ (own_in text r i j) (in_both text _ _ (names_in_text text inner) (names_in_text text others))

defined_in : (text : List ℕ) (trees : Trees) → AreIn text (defined_by text trees)
defined_in text None' = tt
defined_in text (Tree r i j inner others) = own_in text r i j

called_in : (text : List ℕ) (trees : Trees) → AreIn text (called_by text trees)
called_in text None' = tt
called_in text (Tree r i j inner others) = names_in_text text others

pub definitions_in : (text : List ℕ) (trees : Trees) → AreIn text (definitions text trees)
definitions_in text None' = tt
definitions_in text (Tree r i j inner others) =
    in_both text _ _ (if_in text (bytes_eq r (codes "grammar_rule")) (defined_by text inner) (defined_in text inner)) (definitions_in text others)

pub calls_in : (text : List ℕ) (trees : Trees) → AreIn text (calls text trees)
calls_in text None' = tt
calls_in text (Tree r i j inner others) =
    in_both text _ _ (if_in text (bytes_eq r (codes "grammar_rule")) (called_by text inner) (called_in text inner)) (calls_in text others)

-- The names that are answered are builtins, and no rule has one of them.
use Rattle.std.proofs.Common.{◌≡◌, ℕ, List, [], ◌∷◌, ◌++◌, Bool, true, false, if◌then◌else◌, ◌||◌, Bor, None, map, refl, sym, subst, ◌∙◌, bytes_eq, codes, chars}
use Rattle.std.proofs.lemmas.List.Elements.{All-from_recursion}
use Rattle.std.proofs.lemmas.Slice.Eq.{bytes_eq-Decides}
use Rattle.std.specs.List.{All, AllByRecursion}
use Rattle.std.specs.Prelude.{◌&&◌, filter, not}
use Rattle.std.specs.Str.{IsUtf8}
use Rattle.std.proofs.lemmas.Bool.{false_from_ne_true}
use Rattle.front_validator.proofs.EmptyLemmas.{empty_second}
use Rattle.base_language.specs.Language.Builtins.{is_one_of}
use Rattle.base_language.specs.Language.Expression.{rule_of}
use Rattle.base_language.specs.Language.State.{Trees, None', Tree}
use Rattle.base_language.specs.Pieces.Saying.{Span, piece, written}
use Rattle.base_language.proofs.Basics.{first_of_neither, second_of_neither}
use Rattle.front_names.specs.GrammarNames.{AreWrittenAt, called_by, calls, definitions, first_calls, name_complaints, names_in, own_name}
use Rattle.front_names.specs.Names.{duplicate_complaints, first_places, is_builtin, pest_keyword_complaints, undefined_calls, undefined_complaints}
use Rattle.front_spanned.specs.Erasure.{rules_without_spans}
use Rattle.front_spanned.specs.Spanned.{SpannedRule}
use Rattle.front_reader.specs.Reading.{ReadsRules}
use Rattle.pest_meta.proofs.WellNamed.{AreTexts, defined_texts, heads, names_read, no_rule, none_taken, nothing_said, tails, texts_append, texts_if, true_is_false}
use Rattle.pest_meta.proofs.WholeCharacters.{OnCharacters}

-- the names that trees call are texts, if the trees stand on characters
module _ (text : List ℕ) where
  names_texts : (us : Trees) → OnCharacters text us → AreTexts (names_in text us)
  names_texts None' h = tt
  names_texts (Tree r i j inner others) h =
      texts_append (own_name text r i j) (names_in text inner ++ names_in text others)
      (texts_if (bytes_eq r (codes "identifier")) (piece text i j ∷ []) (h.0, tt))
      (texts_append (names_in text inner) (names_in text others) (names_texts inner h.1) (names_texts others h.2))

  called_by_texts : (us : Trees) → OnCharacters text us → AreTexts (called_by text us)
  called_by_texts None' h = tt
  called_by_texts (Tree r i j inner others) h = names_texts others h.2

  called_texts : (us : Trees) → OnCharacters text us → AreTexts (calls text us)
  called_texts None' h = tt
  called_texts (Tree r i j inner others) h =
      texts_append (if bytes_eq r (codes "grammar_rule") then called_by text inner else []) (calls text others)
      (texts_if (bytes_eq r (codes "grammar_rule")) (called_by text inner) (called_by_texts inner h.1))
      (called_texts others h.2)

-- what is neither among some names nor no builtin is a builtin
builtin_if : (among builtin : Bool) → among ≡ false → (not among && not builtin) ≡ false → builtin ≡ true
builtin_if among true e h = refl
builtin_if true false e h = cc
builtin_if false false e h = cc

-- if each call is of one of some names or of a builtin, the first calls of the others are of builtins
module _ (names : List (List ℕ)) where
  abbrev is_unknown : Span → Bool
  is_unknown call = not (is_one_of names (written call)) && not (is_builtin (written call))

  abbrev IsOutside : Span → Type 0
  IsOutside call = (is_builtin (written call) ≡ true) × (is_one_of names (written call) ≡ false) × IsUtf8 (written call)

  first_outside : (before : List (List ℕ)) (places : List Span) → filter is_unknown places ≡ [] → AreTexts places
      → ((n : List ℕ) → is_one_of before n ≡ false → is_one_of names n ≡ false) → AllByRecursion IsOutside (first_places before places)
  first_outside before [] h u k = tt
  first_outside before (place ∷ places) h u k =
      let none = none_taken is_unknown place places h in
      let others =
      first_outside (written place ∷ before) places none.1 u.1
      (λ n e. k n (second_of_neither (bytes_eq (written place) n) (is_one_of before n) e)) in
      go none.0 others (is_one_of before (written place)) refl
    where
      go : is_unknown place ≡ false → AllByRecursion IsOutside (first_places (written place ∷ before) places) → (b : Bool) → is_one_of before (written place) ≡ b
          → AllByRecursion IsOutside (if b then first_places (written place ∷ before) places else place ∷ first_places (written place ∷ before) places)
      go known others true e = others
      go known others false e =
          let outside = k (written place) e in
          ((builtin_if (is_one_of names (written place)) (is_builtin (written place)) outside known, outside, u.0), others)

-- a name that is at none of these places is another one at each
others_there : (name : List ℕ) (places : List Span) → is_one_of (map written places) name ≡ false
    → AllByRecursion (λ place. is_one_of (name ∷ []) (written place) ≡ false) places
others_there name [] h = tt
others_there name (place ∷ places) h =
    (other, others_there name places (second_of_neither (bytes_eq (written place) name) (is_one_of (map written places) name) h))
  where
    differs : bytes_eq (written place) name ≡ false
    differs = first_of_neither (bytes_eq (written place) name) (is_one_of (map written places) name) h

    same : bytes_eq name (written place) ≡ true → ⊥
    same k =
        true_is_false (sym ((bytes_eq-Decides (written place) name).1 (sym ((bytes_eq-Decides name (written place)).0 k))) ∙ differs)

    other : (bytes_eq name (written place) || false) ≡ false
    other = rw (false_from_ne_true (bytes_eq name (written place)) same) refl

-- what is so of what is written at places is so of texts that are that
of_texts : (P : List ℕ → Type 0) (places : List Span) (texts : List (Bor (List ℕ))) → AreWrittenAt places texts
    → AllByRecursion (λ place. P (written place)) places → AllByRecursion (λ t. P t.now) texts
of_texts P places [] e h = tt
of_texts P [] (t ∷ texts) e h = absurd (some_is_none e)
  where
    some_is_none : t.now ∷ map (λ u. u.now) texts ≡ [] → ⊥
    some_is_none k = cc
of_texts P (place ∷ places) (t ∷ texts) e h = (subst P (sym (heads e)) h.0, of_texts P places texts (tails e) h.1)

module _ {text : List ℕ} {us : Trees} {rs : List SpannedRule} (d : ReadsRules text us rs) (on : OnCharacters text us)
    (h : name_complaints (definitions text us) (calls text us) ≡ []) where
  none_unknown : undefined_calls (definitions text us) (calls text us) ≡ []
  none_unknown =
      nothing_said _ (undefined_calls (definitions text us) (calls text us))
      (empty_second (pest_keyword_complaints (definitions text us) ++ duplicate_complaints (definitions text us)) (undefined_complaints (definitions text us) (calls text us)) h)

  abbrev IsBeside : List ℕ → Type 0
  IsBeside name = (is_builtin name ≡ true) × (rule_of (rules_without_spans rs) (chars name) ≡ None)

  beside : (places : List Span) → AllByRecursion (IsOutside (map written (definitions text us))) places → AllByRecursion (λ place. IsBeside (written place)) places
  beside [] o = tt
  beside (place ∷ places) o =
      let none = others_there (written place) (definitions text us) o.0.1 in
      ((o.0.0, no_rule [] (written place) (definitions text us) (rules_without_spans rs) o.0.2 (names_read d) (defined_texts text us on) none), beside places o.1)

  -- the first calls of names that trees do not define are of builtins, and no rule that is read has such a name
  pub builtins_outside : (builtins : List (Bor (List ℕ))) → AreWrittenAt (first_calls (definitions text us) (calls text us)) builtins
      → All (λ name. IsBeside name.now) builtins
  builtins_outside builtins w =
      let first = first_calls (definitions text us) (calls text us) in
      let outside = first_outside (map written (definitions text us)) (map written (definitions text us)) (calls text us) none_unknown (called_texts text us on) (λ n e. e) in
      All-from_recursion (λ name. IsBeside name.now) builtins (of_texts IsBeside first builtins w (beside first outside))

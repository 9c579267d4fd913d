-- Rules whose names are in order: distinct names, none a keyword.
use Rattle.std.proofs.Common.{◌≡◌, ℕ, List, [], ◌∷◌, ◌++◌, None, Bool, true, false, if◌then◌else◌, map, refl, sym, ap, subst, ◌∙◌, bytes_eq, codes, chars}
use Rattle.std.proofs.lemmas.List.Elements.{All-from_recursion, recursion_from_All}
use Rattle.std.proofs.lemmas.Slice.Eq.{bytes_eq-Decides}
use Rattle.std.proofs.lemmas.Str.{encodes-chars}
use Rattle.std.proofs.Math.Utf8.{encodes}
use Rattle.std.specs.List.{All, AllByRecursion}
use Rattle.std.specs.Prelude.{filter}
use Rattle.std.specs.Str.{IsUtf8}
use Rattle.std.proofs.lemmas.Bool.{false_from_ne_true}
use Rattle.front_validator.proofs.EmptyLemmas.{empty_first, empty_second}
use Rattle.base_language.specs.Language.Builtins.{is_one_of}
use Rattle.base_language.specs.Language.Expression.{Grammar, rule_of}
use Rattle.base_language.specs.Language.Grammar.{HasDistinctNames, keywords}
use Rattle.base_language.specs.Rewritings.Rewriting.{KeepsAny}
use Rattle.base_language.specs.Pieces.Saying.{Complaint, Span, piece, written}
use Rattle.base_language.specs.Language.State.{Trees, None', Tree}
use Rattle.front_names.specs.GrammarNames.{defined_by, definitions, name_complaints}
use Rattle.front_names.specs.Names.{later_places, places_of, pest_keyword_complaints, duplicate_complaints, undefined_complaints}
use Rattle.front_spanned.specs.Erasure.{rules_without_spans}
use Rattle.front_spanned.specs.Spanned.{SpannedRule}
use Rattle.base_language.specs.Language.Text.{IsText}
use Rattle.base_language.proofs.Basics.{first_of_neither, second_of_neither}
use Rattle.pest_meta.proofs.Fitting.{characters_are_text}
use Rattle.pest_meta.proofs.WholeCharacters.{OnCharacters}
use Rattle.front_reader.specs.Reading.{line_doc, normal, modified, ReadsRules, end_of_input, grammar_doc, documented, defined}

-- the names that are written at some places
abbrev pub names_at : List Span → List (List ℕ)
names_at places = map (λ place. chars (written place)) places

-- the names of rules
abbrev pub names_of : Grammar → List (List ℕ)
names_of rules = map (λ r. r.name) rules

-- at each place stands a text
abbrev pub AreTexts : List Span → Type 0
AreTexts places = AllByRecursion (λ place. IsUtf8 (written place)) places

-- rules that are read have the names that their trees define
pub names_read : {text : List ℕ} {us : Trees} {rs : List SpannedRule} → ReadsRules text us rs
    → names_of (rules_without_spans rs) ≡ names_at (definitions text us)
names_read end_of_input = refl
names_read (grammar_doc d) = names_read d
names_read (documented line_doc d) = names_read d
names_read (defined {r = r} (normal b) d) = ap (λ ns. r.name ∷ ns) (names_read d)
names_read (defined {r = r} (modified m b) d) = ap (λ ns. r.name ∷ ns) (names_read d)

-- two texts with the same characters are the same
same_bytes : (b c : List ℕ) → IsUtf8 b → IsUtf8 c → chars b ≡ chars c → b ≡ c
same_bytes b c u v e = sym (encodes-chars b u) ∙ ap encodes e ∙ encodes-chars c v

pub true_is_false : true ≡ false → ⊥
true_is_false h = cc

-- a text is not among words, then neither are its characters, if the words are written as they are
not_among : (words : List (List ℕ)) (b : List ℕ) → AllByRecursion (λ w. encodes w ≡ w) words → IsUtf8 b → is_one_of words b ≡ false → is_one_of words (chars b) ≡ false
not_among [] b a u h = refl
not_among (w ∷ words) b a u h = rw (first, not_among words b a.1 u (second_of_neither (bytes_eq w b) _ h)) refl
  where
    other : bytes_eq w (chars b) ≡ true → ⊥
    other e =
        let same : w ≡ b = sym a.0 ∙ ap encodes ((bytes_eq-Decides w (chars b)).0 e) ∙ encodes-chars b u in
        true_is_false (sym ((bytes_eq-Decides w b).1 same) ∙ first_of_neither (bytes_eq w b) (is_one_of words b) h)

    first : bytes_eq w (chars b) ≡ false
    first = false_from_ne_true (bytes_eq w (chars b)) other

-- the keywords are written as they are
keywords_are_ascii : AllByRecursion (λ w. encodes w ≡ w) keywords
unfolding keywords lib.Utf8.encode
keywords_are_ascii =
    (refl, (refl, (refl, (refl, (refl, (refl, (refl, (refl, (refl, (refl, tt))))))))))

pub heads : {x y : List ℕ} {xs ys : List (List ℕ)} → x ∷ xs ≡ y ∷ ys → x ≡ y
heads h = cc

pub tails : {x y : List ℕ} {xs ys : List (List ℕ)} → x ∷ xs ≡ y ∷ ys → xs ≡ ys
tails h = cc

pub none_taken : (p : Span → Bool) (x : Span) (xs : List Span) → filter p (x ∷ xs) ≡ [] → (p x ≡ false) × (filter p xs ≡ [])
none_taken p x xs h = go (p x) refl
  where
    go : (b : Bool) → p x ≡ b → (p x ≡ false) × (filter p xs ≡ [])
    go true e = absurd (some_left (rw e at h))
      where
        some_left : x ∷ filter p xs ≡ [] → ⊥
        some_left k = cc
    go false e = (e, rw e at h)

-- rules whose names stand at places where no keyword stands
no_keyword : (places : List Span) (rules : Grammar) → names_of rules ≡ names_at places → AreTexts places → places_of keywords places ≡ []
    → AllByRecursion (λ r. is_one_of keywords r.name ≡ false) rules
no_keyword places [] e u h = tt
no_keyword [] (r ∷ rules) e u h = absurd (some_is_none e)
  where
    some_is_none : r.name ∷ names_of rules ≡ [] → ⊥
    some_is_none k = cc
no_keyword (place ∷ places) (r ∷ rules) e u h =
    let one = none_taken (λ place. is_one_of keywords (written place)) place places h in
    let here : is_one_of keywords (chars (written place)) ≡ false = not_among keywords (written place) keywords_are_ascii u.0 one.0 in
    (subst (λ n. is_one_of keywords n ≡ false) (sym (heads e)) here, no_keyword places rules (tails e) u.1 one.1)

-- if no later place has a name that was met, no place has one
module _ where
  not_met : (before : List (List ℕ)) (place : Span) (places : List Span) → later_places before (place ∷ places) ≡ []
      → (is_one_of before (written place) ≡ false) × (later_places (written place ∷ before) places ≡ [])
  not_met before place places h = go (is_one_of before (written place)) refl
    where
      go : (b : Bool) → is_one_of before (written place) ≡ b → (is_one_of before (written place) ≡ false) × (later_places (written place ∷ before) places ≡ [])
      go true e = absurd (some_left (rw e at h))
        where
          some_left : place ∷ later_places (written place ∷ before) places ≡ [] → ⊥
          some_left k = cc
      go false e = (e, rw e at h)

  none_met : (before : List (List ℕ)) (places : List Span) → later_places before places ≡ [] → AllByRecursion (λ place. is_one_of before (written place) ≡ false) places
  none_met before [] h = tt
  none_met before (place ∷ places) h =
      let one = not_met before place places h in
      (one.0, others places (none_met (written place ∷ before) places one.1))
    where
      others : (ps : List Span) → AllByRecursion (λ p. is_one_of (written place ∷ before) (written p) ≡ false) ps → AllByRecursion (λ p. is_one_of before (written p) ≡ false) ps
      others [] a = tt
      others (p ∷ ps) a = (second_of_neither (bytes_eq (written place) (written p)) _ a.0, others ps a.1)

-- a name that stands at none of the places is no rule's
pub no_rule : (before : List (List ℕ)) (name : List ℕ) (places : List Span) (rules : Grammar) → IsUtf8 name → names_of rules ≡ names_at places → AreTexts places
    → AllByRecursion (λ p. is_one_of (name ∷ before) (written p) ≡ false) places → rule_of rules (chars name) ≡ None
no_rule before name places [] v e u h = refl
no_rule before name [] (r ∷ rules) v e u h = absurd (some_is_none e)
  where
    some_is_none : r.name ∷ names_of rules ≡ [] → ⊥
    some_is_none k = cc
no_rule before name (place ∷ places) (r ∷ rules) v e u h = rw (no_rule before name places rules v (tails e) u.1 h.1, other) refl
  where
    same : bytes_eq r.name (chars name) ≡ true → ⊥
    same k =
        let chars_same : chars name ≡ chars (written place) = sym ((bytes_eq-Decides r.name (chars name)).0 k) ∙ heads e in
        let bytes_same = same_bytes name (written place) v u.0 chars_same in
        true_is_false (sym ((bytes_eq-Decides name (written place)).1 bytes_same) ∙ first_of_neither (bytes_eq name (written place)) (is_one_of before (written place)) h.0)

    other : bytes_eq r.name (chars name) ≡ false
    other = false_from_ne_true (bytes_eq r.name (chars name)) same

-- rules whose names stand at places of which none repeats a name
distinct : (before : List (List ℕ)) (places : List Span) (rules : Grammar) → names_of rules ≡ names_at places → AreTexts places → later_places before places ≡ []
    → HasDistinctNames rules
distinct before places [] e u h = tt
distinct before [] (r ∷ rules) e u h = absurd (some_is_none e)
  where
    some_is_none : r.name ∷ names_of rules ≡ [] → ⊥
    some_is_none k = cc
distinct before (place ∷ places) (r ∷ rules) e u h =
    let one = not_met before place places h in
    let none : rule_of rules (chars (written place)) ≡ None = no_rule before (written place) places rules u.0 (tails e) u.1 (none_met (written place ∷ before) places one.1) in
    (subst (λ n. rule_of rules n ≡ None) (sym (heads e)) none, distinct (written place ∷ before) places rules (tails e) u.1 one.1)

pub nothing_said : (say : Span → Complaint) (places : List Span) → map say places ≡ [] → places ≡ []
nothing_said say [] h = refl
nothing_said say (place ∷ places) h = cc

module _ {text : List ℕ} {us : Trees} {rs : List SpannedRule} (d : ReadsRules text us rs) (u : AreTexts (definitions text us)) (calls : List Span)
    (h : name_complaints (definitions text us) calls ≡ []) where
  first_two : pest_keyword_complaints (definitions text us) ++ duplicate_complaints (definitions text us) ≡ []
  first_two = empty_first _ (undefined_complaints (definitions text us) calls) h

  of_keywords : places_of keywords (definitions text us) ≡ []
  of_keywords =
      nothing_said _ (places_of keywords (definitions text us)) (empty_first (pest_keyword_complaints (definitions text us)) (duplicate_complaints (definitions text us)) first_two)

  of_duplicates : later_places [] (definitions text us) ≡ []
  of_duplicates =
      nothing_said _ (later_places [] (definitions text us)) (empty_second (pest_keyword_complaints (definitions text us)) (duplicate_complaints (definitions text us)) first_two)

  -- rules of trees without complaints on their names: none is a keyword, and they are distinct
  pub no_keyword_read : All (λ r. is_one_of keywords r.name ≡ false) (rules_without_spans rs)
  no_keyword_read = All-from_recursion (λ r. is_one_of keywords r.name ≡ false) (rules_without_spans rs) (no_keyword (definitions text us) (rules_without_spans rs) (names_read d) u of_keywords)

  pub distinct_read : HasDistinctNames (rules_without_spans rs)
  distinct_read = distinct [] (definitions text us) (rules_without_spans rs) (names_read d) u of_duplicates

-- a rule of no keyword's name is not named `ANY`
any_is_keyword : is_one_of keywords (codes "ANY") ≡ true
unfolding keywords
any_is_keyword = refl

any_is_no_rule : (rules : Grammar) → AllByRecursion (λ r. is_one_of keywords r.name ≡ false) rules → KeepsAny rules
any_is_no_rule [] h = refl
any_is_no_rule (r ∷ rules) h = rw (any_is_no_rule rules h.1, other) refl
  where
    same : bytes_eq r.name (codes "ANY") ≡ true → ⊥
    same k = true_is_false (sym (subst (λ n. is_one_of keywords n ≡ true) (sym ((bytes_eq-Decides r.name (codes "ANY")).0 k)) any_is_keyword) ∙ h.0)

    other : bytes_eq r.name (codes "ANY") ≡ false
    other = false_from_ne_true (bytes_eq r.name (codes "ANY")) same

-- the names that trees define are texts, if the trees stand on characters
pub texts_if : (b : Bool) (places : List Span) → AreTexts places → AreTexts (if b then places else [])
texts_if true places h = h
texts_if false places h = tt

pub texts_append : (places others : List Span) → AreTexts places → AreTexts others → AreTexts (places ++ others)
texts_append [] others h k = k
texts_append (place ∷ places) others h k = (h.0, texts_append places others h.1 k)

defined_by_texts : (text : List ℕ) (us : Trees) → OnCharacters text us → AreTexts (defined_by text us)
defined_by_texts text None' h = tt
defined_by_texts text (Tree r i j inner others) h =
    texts_if (bytes_eq r (codes "identifier")) (piece text i j ∷ []) (h.0, tt)

pub defined_texts : (text : List ℕ) (us : Trees) → OnCharacters text us → AreTexts (definitions text us)
defined_texts text None' h = tt
defined_texts text (Tree r i j inner others) h =
    texts_append (if bytes_eq r (codes "grammar_rule") then defined_by text inner else []) (definitions text others)
    (texts_if (bytes_eq r (codes "grammar_rule")) (defined_by text inner) (defined_by_texts text inner h.1))
    (defined_texts text others h.2)

-- names are texts
texts_named : (places : List Span) (rules : Grammar) → names_of rules ≡ names_at places → AreTexts places → AllByRecursion (λ r. IsText r.name) rules
texts_named places [] e u = tt
texts_named [] (r ∷ rules) e u = absurd (some_is_none e)
  where
    some_is_none : r.name ∷ names_of rules ≡ [] → ⊥
    some_is_none k = cc
texts_named (place ∷ places) (r ∷ rules) e u =
    (subst IsText (sym (heads e)) (characters_are_text (written place) u.0), texts_named places rules (tails e) u.1)

pub names_are_texts : {text : List ℕ} {us : Trees} {rs : List SpannedRule} → ReadsRules text us rs → AreTexts (definitions text us) → All (λ r. IsText r.name) (rules_without_spans rs)
names_are_texts {text} {us} {rs} d u = All-from_recursion (λ r. IsText r.name) (rules_without_spans rs) (texts_named (definitions text us) (rules_without_spans rs) (names_read d) u)

-- so no rule hides the builtin `ANY`
pub keeps_any : (rules : Grammar) → All (λ r. is_one_of keywords r.name ≡ false) rules → KeepsAny rules
keeps_any rules h = any_is_no_rule rules (recursion_from_All (λ r. is_one_of keywords r.name ≡ false) rules h)

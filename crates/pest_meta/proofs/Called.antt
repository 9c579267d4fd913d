-- The names that rules call are those that their trees call.
use Rattle.std.proofs.Common.{◌≡◌, ◌⊎◌, inl, inr, ℕ, List, [], ◌∷◌, ◌++◌, Option, Some, None, Bool, true, false, if◌then◌else◌, ◌||◌, Bor, map, refl, sym, ap, subst, ◌∙◌, bytes_eq, codes, chars}
use Rattle.std.proofs.lemmas.List.Elements.{All-nil, All-cons, All-contains, All-contains_itself, All-head, All-weaker}
use Rattle.std.proofs.lemmas.Slice.Eq.{bytes_eq-Decides}
use Rattle.std.specs.List.{All, Contains}
use Rattle.std.proofs.lemmas.Bool.{false_from_ne_true, or_cases, or_from, or_left, or_right}
use Rattle.base_language.specs.Language.Builtins.{is_one_of}
use Rattle.base_language.specs.Language.Expression as bare
use Rattle.base_language.specs.Language.Expression.{Expression, Grammar, Part, Rule, or_else, rule_of}
use Rattle.base_language.specs.Language.State.{Trees, None', Tree, joined}
use Rattle.base_language.specs.Language.Text.{Text}
use Rattle.base_language.specs.Language.WellFormed.{InSomeRule}
use Rattle.base_language.specs.Pieces.Saying.{Span, written}
use Rattle.front_names.specs.GrammarNames.{AreWrittenAt, called_by, calls, definitions, first_calls, names_in, own_name}
use Rattle.front_names.specs.Names.{first_places}
use Rattle.front_spanned.specs.Erasure.{between, round, rules_without_spans, without_spans}
use Rattle.front_spanned.specs.Spanned.{Binary, Choice, Seq, SpannedRule, Unary}
use Rattle.front_reader.proofs.ReadParts.{IsGiven, IsHandedDown, parts_so}
use Rattle.front_reader.specs.Reading as reading
use Rattle.front_reader.specs.Reading.{Postfix, ReadsRule, ReadsRules, Terminal, defined, documented, end_of_input, grammar_doc, line_doc, modified, normal}
use Rattle.front_grammar.specs.Shape.{Lone}
use Rattle.pest_meta.proofs.WellNamed.{names_of, names_read, true_is_false}

-- 1. a name is written at one of these places
pub data Among (n : List ℕ) : List Span → Type 0 where
  at_first : {place : Span} {places : List Span} → chars (written place) ≡ n → Among n (place ∷ places)
  further : {place : Span} {places : List Span} → Among n places → Among n (place ∷ places)

module _ {n : List ℕ} where
  at_none : {X : Type 0} → Among n [] → X
  at_none a = elim a [ ]

  at_one : {place : Span} {places : List Span} → Among n (place ∷ places) → (chars (written place) ≡ n) ⊎ Among n places
  at_one (at_first e) = inl e
  at_one (further a) = inr a

  in_front : (xs ys : List Span) → Among n xs → Among n (xs ++ ys)
  in_front [] ys a = at_none a
  in_front (x ∷ xs) ys (at_first e) = at_first e
  in_front (x ∷ xs) ys (further a) = further (in_front xs ys a)

  in_back : (xs ys : List Span) → Among n ys → Among n (xs ++ ys)
  in_back [] ys a = a
  in_back (x ∷ xs) ys a = further (in_back xs ys a)

  further_on : {x : Span} {xs ys : List Span} → Among n xs ⊎ Among n ys → Among n (x ∷ xs) ⊎ Among n ys
  further_on (inl a) = inl (further a)
  further_on (inr a) = inr a

  parted : (xs ys : List Span) → Among n (xs ++ ys) → Among n xs ⊎ Among n ys
  parted [] ys a = inr a
  parted (x ∷ xs) ys (at_first e) = inl (at_first e)
  parted (x ∷ xs) ys (further a) = further_on (parted xs ys a)

  either : (xs ys zs : List Span) → (Among n ys → Among n zs) → Among n (xs ++ ys) → Among n (xs ++ zs)
  either xs ys zs f a = go (parted xs ys a)
    where
      go : Among n xs ⊎ Among n ys → Among n (xs ++ zs)
      go (inl b) = in_front xs zs b
      go (inr b) = in_back xs zs (f b)

-- 2. what is read from trees calls names that stand in them
module _ (text : List ℕ) where
  front_names : {n : List ℕ} (us vs : Trees) → Among n (names_in text us) → Among n (names_in text (joined us vs))
  front_names None' vs a = at_none a
  front_names (Tree r i j inner others) vs a =
      either (own_name text r i j) (names_in text inner ++ names_in text others) (names_in text inner ++ names_in text (joined others vs))
      (either (names_in text inner) (names_in text others) (names_in text (joined others vs)) (front_names others vs)) a

module _ (text : List ℕ) (whole : List Span) where
  abbrev StandsWithin : Trees → Type 0
  StandsWithin us = (n : List ℕ) → Among n (names_in text us) → Among n whole

  handed_down : IsHandedDown StandsWithin
  handed_down = record {
    inner = λ r i j us vs h n a. h n (in_back (own_name text r i j) _ (in_front (names_in text us) (names_in text vs) a));
    behind = λ r i j us vs h n a. h n (in_back (own_name text r i j) _ (in_back (names_in text us) (names_in text vs) a));
    front = λ us vs c h n a. h n (front_names text us vs a);
  }

  abbrev CallsWithin : Expression → Type 0
  CallsWithin (bare.Ident n) = Among n whole
  CallsWithin _ = Unit {0}

  terminal_within : {r : Text} {i j : ℕ} {us : Trees} {e : Expression} (vs : Trees) → Terminal text r i j us e → StandsWithin (Tree r i j us vs) → CallsWithin e
  terminal_within vs reading.identifier h = h _ (at_first refl)
  terminal_within vs reading.string h = tt
  terminal_within vs reading.insensitive h = tt
  terminal_within vs reading.range h = tt
  terminal_within vs reading.slice h = tt
  terminal_within vs reading.slice_from h = tt
  terminal_within vs reading.slice_to h = tt
  terminal_within vs reading.slice_between h = tt

  postfix_within : {r : Text} {us : Trees} {f : Unary} → Postfix text r us f → (e : Expression) → CallsWithin (round f e)
  postfix_within reading.opt e = tt
  postfix_within reading.rep e = tt
  postfix_within reading.rep_once e = tt
  postfix_within reading.exact e = tt
  postfix_within reading.min e = tt
  postfix_within reading.max e = tt
  postfix_within reading.min_max e = tt

  between_within : (f : Binary) (a b : Expression) → CallsWithin (between f a b)
  between_within Seq a b = tt
  between_within Choice a b = tt

  given : IsGiven text StandsWithin CallsWithin
  given = record {
    terminal = λ vs t h. terminal_within vs t h;
    postfix = λ p h e. postfix_within p e;
    positive = λ e. tt;
    negative = λ e. tt;
    push = λ e. tt;
    literal_push = λ vs h. tt;
    tag = λ us h e. tt;
    between_two = between_within;
  }

-- 3. a rule calls names that its tree calls, or its own
module _ (text : List ℕ) where
  abbrev end : Trees
  end = Lone (codes "EOI") 0 0 None'

  alone : (r : Rule) → Contains (r ∷ []) r
  alone r = All-head (Contains (r ∷ [])) r [] (All-contains_itself (r ∷ []))

  in_rule : {inner : Trees} {r : SpannedRule} {n : Text} → ReadsRule text inner (Some r) → Part (without_spans r.body) (bare.Ident n) → Among n (names_in text inner)
  in_rule {inner} {r} {n} d i = go (parted (names_in text inner) [] within)
    where
      rule : Rule
      rule = record { name = r.name; type_of = r.type_of; body = without_spans r.body }

      within : Among n (names_in text inner ++ [])
      within =
          let whole = names_in text (Tree (codes "grammar_rule") 0 0 inner end) in
          let rules = defined {from = 0} {to = 0} d (end_of_input {from = 0} {to = 0}) in
          parts_so text (StandsWithin text whole) (CallsWithin text whole) (handed_down text whole) (given text whole) rules (λ m a. a) (bare.Ident n) (rule, alone rule, i)

      go : Among n (names_in text inner) ⊎ Among n [] → Among n (names_in text inner)
      go (inl a) = a
      go (inr a) = at_none a

  abbrev CallsOnly : List Span → Rule → Type 0
  CallsOnly places r = (n : Text) → Part r.body (bare.Ident n) → (n ≡ r.name) ⊎ Among n places

  own_or_called : {name n : Text} {places : List Span} → (name ≡ n) ⊎ Among n places → (n ≡ name) ⊎ Among n places
  own_or_called (inl e) = inl (sym e)
  own_or_called (inr a) = inr a

  rule_calls : {inner : Trees} {r : SpannedRule} {n : Text} → ReadsRule text inner (Some r) → Among n (names_in text inner) → (n ≡ r.name) ⊎ Among n (called_by text inner)
  rule_calls (normal b) a = own_or_called (at_one a)
  rule_calls (modified m b) a = own_or_called (at_one a)

  in_front_of : {name n : Text} (places others : List Span) → (n ≡ name) ⊎ Among n places → (n ≡ name) ⊎ Among n (places ++ others)
  in_front_of places others (inl e) = inl e
  in_front_of places others (inr a) = inr (in_front places others a)

  behind_of : {name n : Text} (places others : List Span) → (n ≡ name) ⊎ Among n others → (n ≡ name) ⊎ Among n (places ++ others)
  behind_of places others (inl e) = inl e
  behind_of places others (inr a) = inr (in_back places others a)

  pub rules_call : {us : Trees} {rs : List SpannedRule} → ReadsRules text us rs → All (CallsOnly (calls text us)) (rules_without_spans rs)
  rules_call end_of_input = All-nil (CallsOnly [])
  rules_call (grammar_doc d) = rules_call d
  rules_call (documented line_doc d) = rules_call d
  rules_call (defined {inner = inner} {us = us} {r = r} {rs = rs} e d) =
      let places = called_by text inner in
      let others = calls text us in
      All-cons (CallsOnly (places ++ others)) _ (rules_without_spans rs)
      (λ n i. in_front_of places others (rule_calls e (in_rule e i)))
      (All-weaker (CallsOnly others) (CallsOnly (places ++ others)) (λ q f n i. behind_of places others (f n i)) (rules_without_spans rs) (rules_call d))

-- 4. in bytes

at_bytes : (n : List ℕ) (places : List Span) → Among n places → (w : List ℕ) × (chars w ≡ n) × (is_one_of (map written places) w ≡ true)
at_bytes n (place ∷ places) (at_first e) =
    (written place, e, or_left (bytes_eq (written place) (written place)) _ ((bytes_eq-Decides (written place) (written place)).1 refl))
at_bytes n (place ∷ places) (further a) =
    let b = at_bytes n places a in
    (b.0, b.1, or_right (bytes_eq (written place) b.0) _ b.2)
at_bytes n [] a = at_none a

module _ {X : Type 0} (f : X → List ℕ) where
  pub characters_there : (xs : List X) (w : List ℕ) → is_one_of (map f xs) w ≡ true → is_one_of (map (λ x. chars (f x)) xs) (chars w) ≡ true
  characters_there [] w h = cc
  characters_there (x ∷ xs) w h = go (or_cases (bytes_eq (f x) w) _ h) (characters_there xs w)
    where
      go : (bytes_eq (f x) w ≡ true) ⊎ (is_one_of (map f xs) w ≡ true)
          → (is_one_of (map f xs) w ≡ true → is_one_of (map (λ x. chars (f x)) xs) (chars w) ≡ true)
          → (bytes_eq (chars (f x)) (chars w) || is_one_of (map (λ x. chars (f x)) xs) (chars w)) ≡ true
      go (inl e) others = or_left _ _ ((bytes_eq-Decides (chars (f x)) (chars w)).1 (ap chars ((bytes_eq-Decides (f x) w).0 e)))
      go (inr k) others = or_right (bytes_eq (chars (f x)) (chars w)) _ (others k)

abbrev IsNamed : Grammar → Rule → Type 0
IsNamed rules r = is_one_of (names_of rules) r.name ≡ true

all_named : (rules : Grammar) → All (IsNamed rules) rules
all_named [] = All-nil (IsNamed [])
all_named (r ∷ rules) =
    All-cons (IsNamed (r ∷ rules)) r rules (or_left _ _ ((bytes_eq-Decides r.name r.name).1 refl))
    (All-weaker (IsNamed rules) (IsNamed (r ∷ rules)) (λ q h. or_right (bytes_eq r.name q.name) _ h) rules (all_named rules))

-- a name of a rule means a rule
some_rule : (rules : Grammar) (n : Text) → is_one_of (names_of rules) n ≡ true → rule_of rules n ≡ None → ⊥
some_rule [] n h e = cc
some_rule (r ∷ rules) n h e = go (rule_of rules n) (bytes_eq r.name n) (some_rule rules n) refl refl h e
  where
    go : (o : Option Rule) (b : Bool) → (is_one_of (names_of rules) n ≡ true → rule_of rules n ≡ None → ⊥) → rule_of rules n ≡ o → bytes_eq r.name n ≡ b
        → (b || is_one_of (names_of rules) n) ≡ true → or_else o (if b then Some r else None) ≡ None → ⊥
    go (Some q) b f i j h e = cc
    go None true f i j h e = cc
    go None false f i j h e = f h i

-- the first of the other places of a name
first_there : (before : List (List ℕ)) (places : List Span) (w : List ℕ) → is_one_of (map written places) w ≡ true → is_one_of before w ≡ false
    → is_one_of (map written (first_places before places)) w ≡ true
first_there before [] w h k = cc
first_there before (place ∷ places) w h k =
    let deeper : bytes_eq (written place) w ≡ false → is_one_of (map written places) w ≡ true → is_one_of (map written (first_places (written place ∷ before) places)) w ≡ true =
    λ e m. first_there (written place ∷ before) places w m (or_from (bytes_eq (written place) w) (is_one_of before w) e k) in
    go (is_one_of before (written place)) (bytes_eq (written place) w) refl refl deeper h
  where
    known : bytes_eq (written place) w ≡ true → is_one_of before (written place) ≡ false
    known e = subst (λ v. is_one_of before v ≡ false) (sym ((bytes_eq-Decides (written place) w).0 e)) k

    go : (met same : Bool) → is_one_of before (written place) ≡ met → bytes_eq (written place) w ≡ same
        → (bytes_eq (written place) w ≡ false → is_one_of (map written places) w ≡ true → is_one_of (map written (first_places (written place ∷ before) places)) w ≡ true)
        → (same || is_one_of (map written places) w) ≡ true
        → is_one_of (map written (if met then first_places (written place ∷ before) places else place ∷ first_places (written place ∷ before) places)) w ≡ true
    go true true m e f i = absurd (true_is_false (sym m ∙ known e))
    go true false m e f i = f e i
    go false true m e f i = or_left (bytes_eq (written place) w) _ e
    go false false m e f i = or_right (bytes_eq (written place) w) _ (f e i)

-- 5. every name that rules call and no rule has is among the first calls
module _ {text : List ℕ} {us : Trees} {rs : List SpannedRule} (d : ReadsRules text us rs) where
  pub each_is_called : (builtins : List (Bor (List ℕ))) → AreWrittenAt (first_calls (definitions text us) (calls text us)) builtins
      → (n : Text) → InSomeRule (rules_without_spans rs) (bare.Ident n) → rule_of (rules_without_spans rs) n ≡ None
      → is_one_of (map (λ name. chars name.now) builtins) n ≡ true
  each_is_called builtins w n i none =
      go (All-contains (CallsOnly text (calls text us)) (rules_without_spans rs) i.0 (rules_call text d) i.1 n i.2)
    where
      own : n ≡ i.0.name → ⊥
      own e =
          let named = All-contains (IsNamed (rules_without_spans rs)) (rules_without_spans rs) i.0 (all_named (rules_without_spans rs)) i.1 in
          some_rule (rules_without_spans rs) n (subst (λ m. is_one_of (names_of (rules_without_spans rs)) m ≡ true) (sym e) named) none

      there : (b : List ℕ) → chars b ≡ n → is_one_of (map written (calls text us)) b ≡ true → is_one_of (map (λ name. chars name.now) builtins) n ≡ true
      there b e k =
          let first : is_one_of (map written (first_calls (definitions text us) (calls text us))) b ≡ true = first_there (map written (definitions text us)) (calls text us) b k undefined in
          subst (λ m. is_one_of (map (λ name. chars name.now) builtins) m ≡ true) e
          (characters_there (λ name. name.now) builtins b (subst (λ ws. is_one_of ws b ≡ true) (sym w) first))
        where
          names : is_one_of (map written (definitions text us)) b ≡ true → ⊥
          names h =
              some_rule (rules_without_spans rs) n
              (subst (λ m. is_one_of (names_of (rules_without_spans rs)) m ≡ true) e
              (subst (λ ns. is_one_of ns (chars b) ≡ true) (sym (names_read d)) (characters_there written (definitions text us) b h)))
              none

          undefined : is_one_of (map written (definitions text us)) b ≡ false
          undefined = false_from_ne_true _ names

      go : (n ≡ i.0.name) ⊎ Among n (calls text us) → is_one_of (map (λ name. chars name.now) builtins) n ≡ true
      go (inl e) = absurd (own e)
      go (inr a) = let b = at_bytes n (calls text us) a in there b.0 b.1 b.2

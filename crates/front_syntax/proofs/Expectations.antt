-- From the numbers of a run to the rules that are expected.
use Rattle.std.proofs.Common.{◌≡◌, refl, sym, ◌∙◌, ap, subst, ℕ, suc, ◌<◌, List, [], ◌∷◌, ◌++◌, Bool, true, false, ◌||◌, bytes_eq, filter, length, map, nat_eq, arith, if◌then◌else◌}
use Rattle.std.specs.List.{list_any}
use Rattle.std.proofs.lemmas.List.Elements.{filter_agree}
use Rattle.std.proofs.lemmas.Slice.Eq.{bytes_eq-Decides}
use Rattle.base_language.specs.Language.Text.{Text}
use Rattle.base_language.specs.Pieces.MetaRules.{meta_rules, name_of}
use Rattle.base_language.specs.declared.grammar.Rule.{Rule}
use Rattle.base_language.specs.declared.grammar.Rule.TheVariants as is
use Rattle.matcher_code.specs.Steps.{is_among, insert_rule, insert_rules}
use Rattle.front_code.specs.Numbers.{number_of, place_among}
use Rattle.front_code.proofs.TreeNames.{small_number}
use Rattle.front_syntax.specs.ExpectedRules.{is_named, is_numbered, rules_named}

tests_agree : (x y : Bool) → (x ≡ true → y ≡ true) → (y ≡ true → x ≡ true) → x ≡ y
tests_agree true y f g = sym (f refl)
tests_agree false true f g = g refl
tests_agree false false f g = refl

or_assoc : (a b c : Bool) → ((a || b) || c) ≡ (a || (b || c))
or_assoc true b c = refl
or_assoc false b c = refl

or_false : (a : Bool) → (a || false) ≡ a
or_false true = refl
or_false false = refl

nat_same : (m n : ℕ) → nat_eq m n ≡ true → m ≡ n
nat_same m n h = grind arith

same_nat : (m n : ℕ) → m ≡ n → nat_eq m n ≡ true
same_nat m n h = grind arith

pub any_is_among : (numbers : List ℕ) (n : ℕ) → list_any (λ y. nat_eq y n) numbers ≡ is_among numbers n
any_is_among [] n = refl
any_is_among (m ∷ ms) n = ap (λ b. nat_eq m n || b) (any_is_among ms n)

-- a rule that is among others is found there
among-append : (ms ns : List ℕ) (n : ℕ) → is_among (ms ++ ns) n ≡ (is_among ms n || is_among ns n)
among-append [] ns n = refl
among-append (m ∷ ms) ns n = ap (λ b. nat_eq m n || b) (among-append ms ns n) ∙ sym (or_assoc (nat_eq m n) (is_among ms n) (is_among ns n))

among_rule : (rules : List ℕ) (n x : ℕ) → is_among (insert_rule rules n) x ≡ (is_among rules x || nat_eq n x)
among_rule rules n x = go (is_among rules n) refl
  where
    known_rule : is_among rules n ≡ true → is_among rules x ≡ (is_among rules x || nat_eq n x)
    known_rule e = tests_agree _ _ (λ h. ap (λ b. b || nat_eq n x) h) (λ h. found (is_among rules x) (nat_eq n x) refl refl h)
      where
        found : (a b : Bool) → is_among rules x ≡ a → nat_eq n x ≡ b → (a || b) ≡ true → is_among rules x ≡ true
        found true b p q h = p
        found false true p q h = subst (λ y. is_among rules y ≡ true) (nat_same n x q) e
        found false false p q h = cc

    go : (b : Bool) → is_among rules n ≡ b → is_among (if b then rules else rules ++ n ∷ []) x ≡ (is_among rules x || nat_eq n x)
    go true e = known_rule e
    go false e = among-append rules (n ∷ []) x ∙ ap (λ b. is_among rules x || b) (or_false (nat_eq n x))

among_rules : (rules ns : List ℕ) (x : ℕ) → is_among (insert_rules rules ns) x ≡ (is_among rules x || is_among ns x)
among_rules rules [] x = sym (or_false (is_among rules x))
among_rules rules (n ∷ ns) x =
    among_rules (insert_rule rules n) ns x
    ∙ (ap (λ b. b || is_among ns x) (among_rule rules n x) ∙ or_assoc (is_among rules x) (nat_eq n x) (is_among ns x))

-- a name that has the place of a rule's name is that name
place_same : (rs : List Rule) (n m : Text) → place_among rs m < length rs → place_among rs n ≡ place_among rs m → n ≡ m
place_same [] n m l e = absurd (omega arith)
place_same (r ∷ rs) n m l e = at_first (λ a b. place_same rs n m a b) (bytes_eq (name_of r) n) (bytes_eq (name_of r) m) refl refl l e
  where
    at_first : (place_among rs m < length rs → place_among rs n ≡ place_among rs m → n ≡ m) → (a b : Bool) → bytes_eq (name_of r) n ≡ a → bytes_eq (name_of r) m ≡ b → (if b then 0 else suc (place_among rs m)) < suc (length rs)
        → (if a then 0 else suc (place_among rs n)) ≡ (if b then 0 else suc (place_among rs m)) → n ≡ m
    at_first before true true p q l e = sym ((bytes_eq-Decides (name_of r) n).0 p) ∙ (bytes_eq-Decides (name_of r) m).0 q
    at_first before true false p q l e = absurd (omega arith)
    at_first before false true p q l e = absurd (omega arith)
    at_first before false false p q l e = before (omega arith) (omega arith)

same_number : (n : Text) (r : Rule) → nat_eq (number_of n) (number_of (name_of r)) ≡ bytes_eq n (name_of r)
same_number n r = tests_agree _ _
    (λ h. (bytes_eq-Decides n (name_of r)).1 (place_same (is.EOI ∷ meta_rules) n (name_of r) (small_number r) (nat_same _ _ h)))
    (λ h. same_nat _ _ (ap number_of ((bytes_eq-Decides n (name_of r)).0 h)))

among_numbers : (names : List Text) (r : Rule) → is_among (map number_of names) (number_of (name_of r)) ≡ is_named names r
among_numbers [] r = refl
among_numbers (n ∷ names) r = rw (same_number n r, among_numbers names r) refl

numbered_named : (numbers : List ℕ) (names : List Text) → numbers ≡ insert_rules [] (map number_of names) → (r : Rule) → is_numbered numbers r ≡ is_named names r
numbered_named numbers names e r =
    ap (λ ns. is_among ns (number_of (name_of r))) e ∙ (among_rules [] (map number_of names) (number_of (name_of r)) ∙ among_numbers names r)

-- the rules of the numbers of names are the rules that are named
pub in_order_named : (numbers : List ℕ) (names : List Text) → numbers ≡ insert_rules [] (map number_of names) → filter (is_numbered numbers) (is.EOI ∷ meta_rules) ≡ rules_named names
in_order_named numbers names e = filter_agree (is_numbered numbers) (is_named names) (numbered_named numbers names e) (is.EOI ∷ meta_rules)

-- Numbers of names, each once, are those of the names that are each there once.
use Rattle.std.proofs.Common.{◌≡◌, refl, sym, ◌∙◌, ap, ap₂, ℕ, zero, suc, ◌<◌, ◌≤◌, List, [], ◌∷◌, ◌++◌, Bool, true, false, ◌||◌, None, inl, inr, arith, length, map, take, get_or, bytes_eq, nat_eq, if◌then◌else◌, chars, ◌+◌}
use Rattle.std.proofs.lemmas.Bool.{eq-eqb, eqb-true}
use Rattle.std.proofs.lemmas.List.{map-append, get_or-map}
use Rattle.std.proofs.lemmas.Slice.Eq.{bytes_eq-Decides}
use Rattle.base_language.specs.Language.Expression.{Grammar}
use Rattle.base_language.specs.Language.FurthestFailure.{is_eoi}
use Rattle.base_language.specs.Language.Text.{Text}
use Rattle.matcher_code.specs.Steps.{is_among, insert_rule, insert_rules}
use Rattle.matcher_program.specs.ExpectedNames as names
use Rattle.matcher_program.specs.ExpectedNames.{each_once, name_texts, with_name, with_names}
use Rattle.matcher_compiler.specs.Names.{HasNumber, HaveNumbers, number_in, or_end}
use Rattle.matcher_compiler.proofs.Numbering.{one_name}
use Rattle.matcher_engine.proofs.Known.{placed}
use Rattle.std.proofs.Math.Seq.{take-suc}
use Rattle.std.specs.Borrow.{Bor}

-- tests that agree
alike : (a b : Bool) → (a ≡ true → b ≡ true) → (b ≡ true → a ≡ true) → a ≡ b
alike true b f h = sym (f refl)
alike false true f h = h refl
alike false false f h = refl

module _ (g : Grammar) where
  same_test : (m n : Text) → HasNumber g m → HasNumber g n → nat_eq (number_in g m) (number_in g n) ≡ bytes_eq m n
  same_test m n x y = alike _ _
      (λ e. (bytes_eq-Decides m n).1 (one_name g m n x y (eqb-true (number_in g m) (number_in g n) e)))
      (λ e. eq-eqb (number_in g m) (number_in g n) (ap (number_in g) ((bytes_eq-Decides m n).0 e)))

  same_among : (ms : List Text) (n : Text) → HaveNumbers g ms → HasNumber g n → is_among (map (number_in g) ms) (number_in g n) ≡ names.is_among ms n
  same_among [] n xs y = refl
  same_among (m ∷ ms) n xs y = ap₂ (λ a b. a || b) (same_test m n xs.0 y) (same_among ms n xs.1 y)

  have_both : (ms ns : List Text) → HaveNumbers g ms → HaveNumbers g ns → HaveNumbers g (ms ++ ns)
  have_both [] ns x y = y
  have_both (m ∷ ms) ns x y = (x.0, have_both ms ns x.1 y)

  have_one : (ms : List Text) (n : Text) → HaveNumbers g ms → HasNumber g n → HaveNumbers g (with_name ms n)
  have_one ms n x y = go (names.is_among ms n)
    where
      go : (b : Bool) → HaveNumbers g (if b then ms else ms ++ n ∷ [])
      go true = x
      go false = have_both ms (n ∷ []) x (y, tt)

  rule_of_name : (ms : List Text) (n : Text) → HaveNumbers g ms → HasNumber g n → insert_rule (map (number_in g) ms) (number_in g n) ≡ map (number_in g) (with_name ms n)
  rule_of_name ms n x y =
      ap (λ b. if b then map (number_in g) ms else map (number_in g) ms ++ number_in g n ∷ []) (same_among ms n x y) ∙ go (names.is_among ms n)
    where
      go : (b : Bool) → (if b then map (number_in g) ms else map (number_in g) ms ++ number_in g n ∷ []) ≡ map (number_in g) (if b then ms else ms ++ n ∷ [])
      go true = refl
      go false = sym (map-append (number_in g) ms (n ∷ []))

  rules_of_names : (ms ns : List Text) → HaveNumbers g ms → HaveNumbers g ns → insert_rules (map (number_in g) ms) (map (number_in g) ns) ≡ map (number_in g) (with_names ms ns)
  rules_of_names ms [] x y = refl
  rules_of_names ms (n ∷ ns) x y =
      ap (λ rules. insert_rules rules (map (number_in g) ns)) (rule_of_name ms n x y.0) ∙ rules_of_names (with_name ms n) ns (have_one ms n x y.0) y.1

  pub rules_once : (ns : List Text) → HaveNumbers g ns → insert_rules [] (map (number_in g) ns) ≡ map (number_in g) (each_once ns)
  rules_once ns y = rules_of_names [] ns tt y

  have_many : (ms ns : List Text) → HaveNumbers g ms → HaveNumbers g ns → HaveNumbers g (with_names ms ns)
  have_many ms [] x y = x
  have_many ms (n ∷ ns) x y = have_many (with_name ms n) ns (have_one ms n x y.0) y.1

  pub have_once : (ns : List Text) → HaveNumbers g ns → HaveNumbers g (each_once ns)
  have_once ns y = have_many [] ns tt y

  -- a number of a name is not greater than the number of rules
  pub number_within : (n : Text) → HasNumber g n → number_in g n ≤ length g
  number_within n (inl (i, e)) =
      let k : number_in g n ≡ i = ap (λ o. or_end o (is_eoi n) (length g)) e in
      omega (arith, k, (placed g n i e).0)
  number_within n (inr (e, f)) =
      let k : number_in g n ≡ length g = ap (λ o. or_end o (is_eoi n) (length g)) e ∙ ap (λ b. or_end None b (length g)) f in
      omega (arith, k)

  -- the name of an index
  pub number_at : (ns : List Text) (i : ℕ) → HaveNumbers g ns → i < length ns → HasNumber g (get_or ns i [])
  number_at [] i x l = absurd (omega (arith, l))
  number_at (n ∷ ns) zero x l = x.0
  number_at (n ∷ ns) (suc i) x l = number_at ns i x.1 (omega (arith, l))

  -- the rule of an index
  pub rule_number_at : (ns : List Text) (rules : List ℕ) (i : ℕ) → rules ≡ map (number_in g) ns → i < length ns → get_or rules i 0 ≡ number_in g (get_or ns i [])
  rule_number_at ns rules i e l = ap (λ xs. get_or xs i 0) e ∙ get_or-map (number_in g) ns i [] 0 l

-- one name more
pub next_name : (ns : List Text) (found new : List (Bor (List ℕ))) (name : Bor (List ℕ)) (i : ℕ) → i < length ns → new ≡ found ++ name ∷ [] → name_texts found ≡ take i ns
    → chars name.now ≡ get_or ns i [] → name_texts new ≡ take (i + 1) ns
next_name ns found new name i l e h k =
    let z : suc i ≡ i + 1 = omega arith in
    ap name_texts e ∙ (map-append (λ n. chars n.now) found (name ∷ []) ∙ (ap₂ (λ a b. a ++ b ∷ []) h k ∙ (sym (take-suc ns i [] l) ∙ ap (λ j. take j ns) z)))

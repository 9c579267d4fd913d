-- Expressions that take one character of a set.
use Rattle.std.proofs.Common.{◌≡◌, refl, sym, ◌∙◌, ap, ap₂, subst, ℕ, zero, suc, ◌<◌, ◌≤◌, ◌⊎◌, inl, inr, List, [], ◌∷◌, ◌++◌, Bool, true, false, ◌||◌, ◌&&◌, nat_eq, nat_le, nat_lt, length, codes, arith, if◌then◌else◌}
use Rattle.std.specs.Prelude.{not}
use Rattle.std.proofs.Math.Bool.{and-true}
use Rattle.std.proofs.lemmas.Bool.{and_parts, cases_lt, leb-true, ltb-true}
use Rattle.base_language.specs.Language.Text.{Text}
use Rattle.base_language.specs.Language.Builtins.{is_between}
use Rattle.base_language.specs.Language.Expression.{Choice, Expression, Ident, NegPred, Range, Seq, Str}
use Rattle.base_language.specs.Language.Matching.{begins, character_outcome, range_set, starts_in, text_outcome}
use Rattle.base_language.specs.Language.Meaning as by
use Rattle.base_language.specs.Language.Meaning.{Does, Run, body_mode, gives_token}
use Rattle.base_language.specs.Language.State.{Classes, Failure, IsRuleMode, Mode, None', State, Success, moved}
use Rattle.base_language.specs.Pieces.MetaRules.{name_of}
use Rattle.base_language.specs.declared.grammar.Rule.{Rule}
use Rattle.front_grammar.specs.MetaGrammar.{body_of, meta_grammar, rule_at, type_of_rule}
use Rattle.front_grammar.specs.Rules.{is_defined}
use Rattle.front_grammar.proofs.Lookup.{defined_rule, no_any}
use Rattle.matcher_code.specs.Failures.{in_silence}
use Rattle.matcher_code.specs.Lists.{is_covered}
use Rattle.matcher_code.specs.Laid.{HasOutcome, IsSilent, IsTight}
use Rattle.matcher_code.proofs.Characters.{choice_of_sets, difference_of_sets, silent_call_of_set}
use Rattle.front_code.proofs.Leaves.{Covers, any_outcome, covers_all, covers_range}

same_bool : (a b : Bool) → (a ≡ true → b ≡ true) → (b ≡ true → a ≡ true) → a ≡ b
same_bool true true f h = refl
same_bool true false f h = sym (f refl)
same_bool false true f h = h refl
same_bool false false f h = refl

-- ranges of two lists
pub covered_either : (r q : List (ℕ × ℕ)) (c : ℕ) → is_covered (r ++ q) c ≡ (is_covered r c || is_covered q c)
covered_either [] q c = refl
covered_either (x ∷ r) q c = ap (λ b. is_between x.0 x.1 c || b) (covered_either r q c) ∙ or_assoc (is_between x.0 x.1 c) (is_covered r c) (is_covered q c)
  where
    or_assoc : (a b c : Bool) → (a || (b || c)) ≡ ((a || b) || c)
    or_assoc true b c = refl
    or_assoc false b c = refl

-- whether two ranges, a range and ranges, two lists of ranges have no character in common
abbrev pub is_apart : ℕ × ℕ → ℕ × ℕ → Bool
is_apart x y = nat_lt x.1 y.0 || nat_lt y.1 x.0

abbrev pub is_apart_from : ℕ × ℕ → List (ℕ × ℕ) → Bool
is_apart_from x [] = true
is_apart_from x (y ∷ q) = is_apart x y && is_apart_from x q

abbrev pub are_apart : List (ℕ × ℕ) → List (ℕ × ℕ) → Bool
are_apart [] q = true
are_apart (x ∷ r) q = is_apart_from x q && are_apart r q

or_cases : (a b : Bool) → (a || b) ≡ true → (a ≡ true) ⊎ (b ≡ true)
or_cases true b h = inl refl
or_cases false b h = inr h

or_right : (a b : Bool) → b ≡ true → (a || b) ≡ true
or_right true b e = refl
or_right false b e = e

between : (a b c : ℕ) → is_between a b c ≡ true → (a ≤ c) × (c ≤ b)
between a b c h = let k = and_parts (nat_le a c) (nat_le c b) h in (leb-true a c k.0, leb-true c b k.1)

is_false : (b : Bool) → (b ≡ true → ⊥) → b ≡ false
is_false true h = absurd (h refl)
is_false false h = refl

apart_one : (x y : ℕ × ℕ) (c : ℕ) → is_apart x y ≡ true → is_between x.0 x.1 c ≡ true → is_between y.0 y.1 c ≡ true → ⊥
apart_one x y c h a b =
    let k = between x.0 x.1 c a in
    let l = between y.0 y.1 c b in
    elim (or_cases (nat_lt x.1 y.0) (nat_lt y.1 x.0) h) [
      | inl z ↦ let m = ltb-true x.1 y.0 z in omega (arith, m, k.0, k.1, l.0, l.1)
      | inr z ↦ let m = ltb-true y.1 x.0 z in omega (arith, m, k.0, k.1, l.0, l.1)
    ]

apart_from : (x : ℕ × ℕ) (q : List (ℕ × ℕ)) (c : ℕ) → is_apart_from x q ≡ true → is_between x.0 x.1 c ≡ true → is_covered q c ≡ true → ⊥
apart_from x [] c h a b = cc
apart_from x (y ∷ q) c h a b =
    let k = and_parts (is_apart x y) (is_apart_from x q) h in
    elim (or_cases (is_between y.0 y.1 c) (is_covered q c) b) [ inl z ↦ apart_one x y c k.0 a z | inr z ↦ apart_from x q c k.1 a z ]

-- a character of the first is none of the second
pub apart : (r q : List (ℕ × ℕ)) (c : ℕ) → are_apart r q ≡ true → is_covered r c ≡ true → is_covered q c ≡ false
apart r q c h a = is_false (is_covered q c) (go r h a)
  where
    go : (r : List (ℕ × ℕ)) → are_apart r q ≡ true → is_covered r c ≡ true → is_covered q c ≡ true → ⊥
    go [] h a b = cc
    go (x ∷ r) h a b =
        let k = and_parts (is_apart_from x q) (are_apart r q) h in
        elim (or_cases (is_between x.0 x.1 c) (is_covered r c) a) [ inl z ↦ apart_from x q c k.0 z b | inr z ↦ go r k.1 z b ]

-- the number behind the first range that has a number, or that number
abbrev pub behind : ℕ → List (ℕ × ℕ) → ℕ
behind p [] = p
behind p (x ∷ r) = if is_between x.0 x.1 p then suc x.1 else behind p r

-- whether ranges have all characters from a number on, which a given number of them show
abbrev pub has_all : ℕ → ℕ → List (ℕ × ℕ) → Bool
has_all zero p r = nat_le 1114112 p
has_all (suc n) p r = has_all n (behind p r) r

le_true : (a b : ℕ) → a ≤ b → nat_le a b ≡ true
le_true a b h = grind arith

until : (p c : ℕ) (r : List (ℕ × ℕ)) → p ≤ c → c < behind p r → is_covered r c ≡ true
until p c [] h k = absurd (omega (arith, h, k))
until p c (x ∷ r) h k = go (is_between x.0 x.1 p) refl k (until p c r h)
  where
    go : (b : Bool) → is_between x.0 x.1 p ≡ b → c < (if b then suc x.1 else behind p r) → (c < behind p r → is_covered r c ≡ true) → (is_between x.0 x.1 c || is_covered r c) ≡ true
    go true e k ih =
        let l = between x.0 x.1 p e in
        let m : is_between x.0 x.1 c ≡ true =
        (let u : x.0 ≤ c = omega (arith, h, l.0) in let v : c ≤ x.1 = omega (arith, k) in ap₂ (λ a b. a && b) (le_true x.0 c u) (le_true c x.1 v)) in
        ap (λ b. b || is_covered r c) m
    go false e k ih = or_right (is_between x.0 x.1 c) (is_covered r c) (ih k)

pub all_covered : (n p c : ℕ) (r : List (ℕ × ℕ)) → has_all n p r ≡ true → p ≤ c → c < 1114112 → is_covered r c ≡ true
all_covered zero p c r h k l = let m = leb-true 1114112 p h in absurd (omega (arith, m, k, l))
all_covered (suc n) p c r h k l = elim (cases_lt c (behind p r)) [ inl a ↦ until p c r k a | inr b ↦ all_covered n (behind p r) c r h b l ]

-- an expression takes one character of a set, which some ranges cover
pub record TakesCharacter (classes : Classes) (m : Mode) (e : Expression) (ranges : List (ℕ × ℕ)) : Type 0 where
  pub set : ℕ → Bool
  pub covers : Covers ranges set
  pub takes : HasOutcome meta_grammar classes (Run m e) (character_outcome set) in_silence

module _ (classes : Classes) where
  one_equal : (c d : ℕ) → is_covered ((c, c) ∷ []) d ≡ nat_eq c d
  one_equal c d = grind arith

  of_one : (c : ℕ) (s : State) → text_outcome nat_eq (c ∷ []) s ≡ character_outcome (λ d. nat_eq c d) s
  of_one c s = ap (λ b. if b then Success (moved 1 s) None' else Failure) (go s.rest)
    where
      go : (cs : Text) → begins nat_eq (c ∷ []) cs ≡ starts_in (λ d. nat_eq c d) cs
      go [] = refl
      go (d ∷ cs) = and-true (nat_eq c d)

  pub one_text : {m : Mode} (c : ℕ) → TakesCharacter classes m (Str (c ∷ [])) ((c, c) ∷ [])
  one_text {m} c = record {
    set = λ d. nat_eq c d;
    covers = λ d h. one_equal c d;
    takes = λ s. subst (λ o. (d : Does meta_grammar classes (Run m (Str (c ∷ []))) s o) × IsSilent d) (of_one c s) (by.str, λ place. refl);
  }

  pub one_range : {m : Mode} (a b : ℕ) → TakesCharacter classes m (Range (a ∷ []) (b ∷ [])) ((a, b) ∷ [])
  one_range a b = record { set = range_set (a ∷ []) (b ∷ []); covers = covers_range a b; takes = λ s. (by.range, λ place. refl) }

  pub one_any : {m : Mode} → IsRuleMode m → TakesCharacter classes m (Ident (codes "ANY")) ((0, 1114111) ∷ [])
  one_any {m} i = record { set = λ c. true; covers = covers_all; takes = any_outcome meta_grammar classes m i no_any }

  pub one_of_two : {m : Mode} {a b : Expression} {r q : List (ℕ × ℕ)} → TakesCharacter classes m a r → TakesCharacter classes m b q
      → TakesCharacter classes m (Choice a b) (r ++ q)
  one_of_two {m} {a} {b} {r} {q} x y = record {
    set = λ c. x.set c || y.set c;
    covers = λ c h. covered_either r q c ∙ ap₂ (λ u v. u || v) (x.covers c h) (y.covers c h);
    takes = choice_of_sets meta_grammar classes m a b x.set y.set x.takes y.takes;
  }

  -- a call that gives no token
  pub one_called : {m b : Mode} {q : List (ℕ × ℕ)} (r : Rule) → is_defined r ≡ true → body_mode (rule_at r) m ≡ b → gives_token (type_of_rule r) m ≡ false
      → TakesCharacter classes b (body_of r) q → TakesCharacter classes m (Ident (name_of r)) q
  one_called {m} {b} r d e h x = record {
    set = x.set;
    covers = x.covers;
    takes = silent_call_of_set meta_grammar classes m (name_of r) (rule_at r) x.set (defined_rule r d) h
        (subst (λ z. HasOutcome meta_grammar classes (Run z (body_of r)) (character_outcome x.set) in_silence) (sym e) x.takes);
  }

  not_of : (a b : Bool) → (a ≡ true → b ≡ false) → (a || b) ≡ true → a ≡ (not b && true)
  not_of true true f h = f refl
  not_of true false f h = refl
  not_of false true f h = refl
  not_of false false f h = h

  -- any character but those of a set
  pub one_other : {m : Mode} {a : Expression} {q : List (ℕ × ℕ)} (r : List (ℕ × ℕ)) → IsTight meta_grammar classes m → IsRuleMode m
      → TakesCharacter classes m a q → are_apart r q ≡ true → has_all (length (r ++ q)) 0 (r ++ q) ≡ true
      → TakesCharacter classes m (Seq (NegPred a) (Ident (codes "ANY"))) r
  one_other {m} {a} {q} r t i x h k = record {
    set = λ c. not (x.set c) && true;
    covers = λ c l.
        not_of (is_covered r c) (is_covered q c) (apart r q c h) (sym (covered_either r q c) ∙ all_covered (length (r ++ q)) 0 c (r ++ q) k (omega arith) l)
        ∙ ap (λ b. not b && true) (x.covers c l);
    takes = difference_of_sets meta_grammar classes m a (Ident (codes "ANY")) x.set (λ c. true) t x.takes (any_outcome meta_grammar classes m i no_any);
  }

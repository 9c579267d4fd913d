-- Names of known numbers.
use Rattle.std.proofs.Common.{◌≡◌, refl, sym, ◌∙◌, ap, subst, ℕ, zero, suc, ◌<◌, ◌≤◌, List, [], ◌∷◌, Bool, true, false, Option, Some, None, chars, codes, bytes_eq, get_or, length, map, arith, if◌then◌else◌}
use Rattle.std.proofs.lemmas.List.{get_or-map, length-map}
use Rattle.std.proofs.lemmas.Slice.Eq.{bytes_eq-Decides}
use Rattle.base_language.specs.Language.Expression.{Grammar, Normal, Rule, Str, last_place, or_else, rule_of}
use Rattle.base_language.specs.Language.FurthestFailure.{is_eoi}
use Rattle.base_language.specs.Language.Text.{Text}
use Rattle.matcher_compiler.specs.Names.{number_in, or_end}
use Rattle.matcher_engine.specs.Walks.{name_in}
use Rattle.std.proofs.lemmas.Str.{chars-IsAscii}
use Rattle.std.proofs.lemmas.Str.Ascii.{IsAscii-cons, IsAscii-nil}

-- the rule of a place has the name
abbrev pub IsNamed : Grammar → Text → ℕ → Type 0
IsNamed g n i = (i < length g) × ((d : Rule) → (get_or g i d).name ≡ n)

placed_first : (r : Rule) (g : Grammar) (n : Text) (i : ℕ) (b : Bool) → bytes_eq r.name n ≡ b → (if b then Some 0 else None) ≡ Some i → IsNamed (r ∷ g) n i
placed_first r g n i true e f =
    let z : 0 ≡ i = cc in
    let same : r.name ≡ n = (bytes_eq-Decides r.name n).0 e in
    subst (λ k. IsNamed (r ∷ g) n k) z (omega arith, λ d. same)
placed_first r g n i false e f = cc

placed_more : (r : Rule) (g : Grammar) (n : Text) (i : ℕ) (o : Option ℕ) → ((k : ℕ) → o ≡ Some k → IsNamed g n k)
    → (elim o [ Some k ↦ Some (suc k) | None ↦ (if bytes_eq r.name n then Some 0 else None) ]) ≡ Some i → IsNamed (r ∷ g) n i
placed_more r g n i (Some k) h f =
    let x = h k refl in
    let z : suc k ≡ i = cc in
    let l : suc k < suc (length g) = omega (arith, x.0) in
    subst (λ j. IsNamed (r ∷ g) n j) z (l, λ d. x.1 d)
placed_more r g n i None h f = placed_first r g n i (bytes_eq r.name n) refl f

pub placed : (g : Grammar) (n : Text) (i : ℕ) → last_place g n ≡ Some i → IsNamed g n i
placed [] n i h = cc
placed (r ∷ g) n i h = placed_more r g n i (last_place g n) (λ k e. placed g n k e) h

-- a name without a place is that of no rule
unnamed_more : (r : Rule) (g : Grammar) (n : Text) (o : Option ℕ) → (o ≡ None → rule_of g n ≡ None) → (b : Bool) → bytes_eq r.name n ≡ b
    → ◌≡◌ {A = Option ℕ} (elim o [ Some k ↦ Some (suc k) | None ↦ (if b then Some 0 else None) ]) None → or_else (rule_of g n) (if bytes_eq r.name n then Some r else None) ≡ None
unnamed_more r g n (Some k) h b f e = cc
unnamed_more r g n None h true f e = cc
unnamed_more r g n None h false f e = rw (h refl, f) refl

pub unnamed : (g : Grammar) (n : Text) → last_place g n ≡ None → rule_of g n ≡ None
unnamed [] n h = refl
unnamed (r ∷ g) n h = unnamed_more r g n (last_place g n) (λ e. unnamed g n e) (bytes_eq r.name n) refl h

past : (xs : List Text) (i : ℕ) (d : Text) → length xs ≤ i → get_or xs i d ≡ d
past [] i d h = refl
past (x ∷ xs) zero d h = absurd (omega (arith, h))
past (x ∷ xs) (suc i) d h = past xs i d (omega (arith, h))

pub named_map : {A : Type 0} (f : A → Rule) (h : A → Text) → ((x : A) → (f x).name ≡ h x) → (xs : List A) (i : ℕ) (d : Rule) (e : Text)
    → i < length xs → get_or (map h xs) i e ≡ (get_or (map f xs) i d).name
named_map f h same [] i d e l = absurd (omega (arith, l))
named_map f h same (x ∷ xs) zero d e l = sym (same x)
named_map f h same (x ∷ xs) (suc i) d e l = named_map f h same xs i d e (omega (arith, l))

pub no_rule : Rule
no_rule = record { name = []; type_of = Normal; body = Str [] }

-- the name of a known number, among the names of a grammar's rules
module _ (g : Grammar) (r : Text) where
  by_text : (o : Option ℕ) → last_place g r ≡ o → (b : Bool) → is_eoi r ≡ b → or_end o b (length g) ≤ length g
      → get_or (map (λ w. w.name) g) (or_end o b (length g)) (codes "EOI") ≡ r
  by_text (Some i) e b f k =
      let x = placed g r i e in
      get_or-map (λ w. w.name) g i no_rule (codes "EOI") x.0 ∙ x.1 no_rule
  by_text None e true f k =
      let n : length (map (λ w. w.name) g) ≡ length g = length-map g (λ w. w.name) in
      let y : r ≡ codes "EOI" = (bytes_eq-Decides r (codes "EOI")).0 f in
      past (map (λ w. w.name) g) (length g) (codes "EOI") (omega (arith, n)) ∙ sym y
  by_text None e false f k = absurd (omega (arith, k))

  pub known_text : number_in g r ≤ length g → name_in (map (λ w. w.name) g) (number_in g r) ≡ r
  known_text h = by_text (last_place g r) refl (is_eoi r) refl h

pub eoi_text : chars (codes "EOI") ≡ codes "EOI"
eoi_text = chars-IsAscii (codes "EOI") (IsAscii-cons 69 (79 ∷ 73 ∷ []) (omega arith) (IsAscii-cons 79 (73 ∷ []) (omega arith) (IsAscii-cons 73 [] (omega arith) IsAscii-nil)))

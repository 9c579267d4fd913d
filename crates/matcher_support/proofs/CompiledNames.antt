-- The names of the rules of a block, and the last rule of a name.
use Rattle.std.proofs.Common.{◌≡◌, ◌∙◌, ap, ap₂, refl, sym, subst, ℕ, zero, suc, ◌+◌, ◌<◌, List, [], ◌∷◌, ◌++◌, None, Some, arith, bytes_eq, chars, drop, false, get_or, length, map, string_bytes, take, true}
use Rattle.std.specs.Borrow.{Bor}
use Rattle.std.specs.Prelude.{IsUtf8}
use Rattle.std.proofs.Math.Seq.{take-suc}
use Rattle.std.proofs.lemmas.List.{length-map, map-append}
use Rattle.std.proofs.lemmas.Str.{IsUtf8-string_bytes}
use Rattle.base_ast.specs.Optimized.{optimized_rules_of}
use Rattle.base_ast.specs.declared.optimized.OptimizedRule.{OptimizedRule}
use Rattle.base_language.specs.Language.Expression.{Grammar, last_place}
use Rattle.base_language.specs.Language.Text.{Text}
use Rattle.format_code.specs.Sections.{section}
use Rattle.matcher_engine.specs.Blocks.{part_of}
use Rattle.matcher_program.specs.ExpectedNames.{name_texts}
use Rattle.matcher_support.specs.Compiled.{IsCompiled}

-- the names of optimized rules
abbrev pub names_of : List OptimizedRule → List Text
names_of rules = map (λ r. r.name) (optimized_rules_of rules)

abbrev bytes_of : List OptimizedRule → List (List ℕ)
bytes_of rules = map (λ r. string_bytes r.name) rules

text_at : (rules : List OptimizedRule) (k : ℕ) → k < length rules → get_or (names_of rules) k [] ≡ chars (get_or (bytes_of rules) k [])
text_at [] k l = absurd (omega (arith, l))
text_at (r ∷ rs) zero l = refl
text_at (r ∷ rs) (suc k) l = text_at rs k (omega (arith, l))

utf8_at : (rules : List OptimizedRule) (k : ℕ) → k < length rules → IsUtf8 (get_or (bytes_of rules) k [])
utf8_at [] k l = absurd (omega (arith, l))
utf8_at (r ∷ rs) zero l = IsUtf8-string_bytes r.name
utf8_at (r ∷ rs) (suc k) l = utf8_at rs k (omega (arith, l))

pub name_count : (rules : List OptimizedRule) → length (names_of rules) ≡ length rules
name_count [] = refl
name_count (r ∷ rs) = ap suc (name_count rs)

module _ (rules : List OptimizedRule) (block : List ℕ) (is : IsCompiled rules block) where
  -- a type for each rule
  pub counted : length (part_of block 3) ≡ length rules
  counted = ap length is.has.types ∙ length-map rules (λ r. _)

  pub name_is_utf8 : (k : ℕ) → k < length (part_of block 3) → IsUtf8 (section (part_of block 2) k)
  name_is_utf8 k l =
      let within : k < length rules = omega (arith, l, counted) in
      subst IsUtf8 (sym (is.has.names k within)) (utf8_at rules k within)

  pub one_name : (k : ℕ) (found new : List (Bor (List ℕ))) (name : Bor (List ℕ)) → k < length (part_of block 3) → name.now ≡ section (part_of block 2) k
      → new ≡ found ++ name ∷ [] → name_texts found ≡ take k (names_of rules) → name_texts new ≡ take (k + 1) (names_of rules)
  one_name k found new name l e h so_far =
      let within : k < length rules = omega (arith, l, counted) in
      let inside : k < length (names_of rules) = omega (arith, within, name_count rules) in
      let here : chars name.now ≡ get_or (names_of rules) k [] = ap chars (e ∙ is.has.names k within) ∙ sym (text_at rules k within) in
      let z : suc k ≡ k + 1 = omega arith in
      ap name_texts h ∙ (map-append (λ n. chars n.now) found (name ∷ [])
      ∙ (ap₂ (λ a b. a ++ b ∷ []) so_far here ∙ (sym (take-suc (names_of rules) k [] inside) ∙ ap (λ j. take j (names_of rules)) z)))

-- the last rule of a name, by a search from the end
last_found : (g : Grammar) (names : List Text) (i : ℕ) (n : Text) → names ≡ map (λ r. r.name) g → i < length names → last_place (drop (suc i) g) n ≡ None → bytes_eq (get_or names i []) n ≡ true → last_place g n ≡ Some i
last_found [] names i n e l u h = absurd (omega (arith, l, ap length e))
last_found (r ∷ g) [] i n e l u h = absurd (omega (arith, l))
last_found (r ∷ g) (m ∷ names) zero n e l u h =
    let same : m ≡ r.name = ap (λ ns. get_or ns 0 []) e in
    let t : bytes_eq r.name n ≡ true = ap (λ z. bytes_eq z n) (sym same) ∙ h in
    rw (u, t) refl
last_found (r ∷ g) (m ∷ names) (suc i) n e l u h =
    let x = last_found g names i n (ap (λ ns. drop 1 ns) e) (omega (arith, l)) u h in
    rw x refl

none_yet : (g : Grammar) (names : List Text) (i : ℕ) (n : Text) → names ≡ map (λ r. r.name) g → i < length names → last_place (drop (suc i) g) n ≡ None → bytes_eq (get_or names i []) n ≡ false → last_place (drop i g) n ≡ None
none_yet [] names i n e l u h = absurd (omega (arith, l, ap length e))
none_yet (r ∷ g) [] i n e l u h = absurd (omega (arith, l))
none_yet (r ∷ g) (m ∷ names) zero n e l u h =
    let same : m ≡ r.name = ap (λ ns. get_or ns 0 []) e in
    let t : bytes_eq r.name n ≡ false = ap (λ z. bytes_eq z n) (sym same) ∙ h in
    rw (u, t) refl
none_yet (r ∷ g) (m ∷ names) (suc i) n e l u h = none_yet g names i n (ap (λ ns. drop 1 ns) e) (omega (arith, l)) u h

drop_all : (g : Grammar) (k : ℕ) → k ≡ length g → drop k g ≡ []
drop_all [] k e = rw e refl
drop_all (r ∷ g) k e = rw e (drop_all g (length g) refl)

pub none_at_end : (g : Grammar) (names : List Text) (k : ℕ) (n : Text) → names ≡ map (λ r. r.name) g → k ≡ length names → last_place (drop k g) n ≡ None
none_at_end g names k n e h =
    let l : k ≡ length g = h ∙ (ap length e ∙ length-map g (λ r. r.name)) in
    ap (λ rs. last_place rs n) (drop_all g k l)

-- one name more was looked at
module _ (g : Grammar) (names : List Text) (e : names ≡ map (λ r. r.name) g) (below next : ℕ) (n : Text) (s : next + 1 ≡ below) (l : next < length names) (u : last_place (drop below g) n ≡ None) where
  after : last_place (drop (suc next) g) n ≡ None
  after = let k : suc next ≡ below = omega (arith, s) in rw k u

  pub not_that_name : bytes_eq (get_or names next []) n ≡ false → last_place (drop next g) n ≡ None
  not_that_name h = none_yet g names next n e l after h

  pub that_name : bytes_eq (get_or names next []) n ≡ true → last_place g n ≡ Some next
  that_name h = last_found g names next n e l after h

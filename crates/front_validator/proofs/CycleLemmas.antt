-- The names of a cycle, with an arrow between two.
use Rattle.std.proofs.Common.{◌≡◌, ◌∙◌, ℕ, List, [], ◌∷◌, ◌++◌, Global, String, ap, append_assoc, append-nil, flat_map, string_bytes, sym}
use Rattle.std.specs.List.{join_by}
use Rattle.std.proofs.lemmas.Grind.{flat_map-append}
use Rattle.std.proofs.lemmas.List.Concat.{flat_map-cons}
use Rattle.front_names.specs.Messages.{arrow}

abbrev pub with_arrow : String Global → List ℕ
with_arrow name = string_bytes name ++ arrow

abbrev pub arrowed : List (String Global) → List ℕ
arrowed names = flat_map with_arrow names

abbrev behind_arrow : String Global → List ℕ
behind_arrow name = arrow ++ string_bytes name

-- 1. an arrow before each name, and one after each
behind : (names : List (String Global)) (last : String Global) → flat_map behind_arrow (names ++ last ∷ []) ≡ arrow ++ (arrowed names ++ string_bytes last)
behind [] last = flat_map-cons behind_arrow last [] ∙ append-nil (behind_arrow last)
behind (n ∷ names) last =
    flat_map-cons behind_arrow n (names ++ last ∷ []) ∙ ap (λ z. behind_arrow n ++ z) (behind names last)
    ∙ turned (string_bytes n) (arrowed names) (string_bytes last)
    ∙ ap (λ z. arrow ++ (z ++ string_bytes last)) (sym (flat_map-cons with_arrow n names))
  where
    turned : (n names last : List ℕ) → (arrow ++ n) ++ (arrow ++ (names ++ last)) ≡ arrow ++ (((n ++ arrow) ++ names) ++ last)
    turned n names last = simp append_assoc

-- 2. joined names are names with arrows, up to the last
pub join_cycle : (names : List (String Global)) (last : String Global) → join_by string_bytes arrow (names ++ last ∷ []) ≡ arrowed names ++ string_bytes last
join_cycle [] last = append-nil (string_bytes last)
join_cycle (n ∷ names) last =
    ap (λ z. string_bytes n ++ z) (behind names last)
    ∙ turned (string_bytes n) (arrowed names) (string_bytes last)
    ∙ ap (λ z. z ++ string_bytes last) (sym (flat_map-cons with_arrow n names))
  where
    turned : (n names last : List ℕ) → n ++ (arrow ++ (names ++ last)) ≡ ((n ++ arrow) ++ names) ++ last
    turned n names last = simp append_assoc

-- 3. one name more
pub one_arrowed : (names : List (String Global)) (name : String Global) → arrowed (names ++ name ∷ []) ≡ arrowed names ++ with_arrow name
one_arrowed names name =
    flat_map-append with_arrow names (name ∷ []) ∙ ap (λ z. arrowed names ++ z) (flat_map-cons with_arrow name [] ∙ append-nil (with_arrow name))

-- The place of the last rule of a name, behind whose rules one more is put.
use Rattle.std.proofs.Common.{◌≡◌, ℕ, suc, [], ◌∷◌, ◌++◌, Option, Some, None, Bool, true, false, if◌then◌else◌, bytes_eq, length, refl, ◌∙◌, ap}
use Rattle.base_language.specs.Language.Text.{Text}
use Rattle.base_language.specs.Language.Expression.{Rule, Grammar, last_place}

abbrev pub next : Bool → Option ℕ → Option ℕ
next b q = elim q [ Some k ↦ Some (suc k) | None ↦ if b then Some 0 else None ]

pub last_more : (g : Grammar) (r : Rule) (n : Text) → last_place (g ++ r ∷ []) n ≡ (if bytes_eq r.name n then Some (length g) else last_place g n)
last_more [] r n = refl
last_more (q ∷ g) r n = ap (next (bytes_eq q.name n)) (last_more g r n) ∙ go (bytes_eq r.name n)
  where
    go : (x : Bool) → next (bytes_eq q.name n) (if x then Some (length g) else last_place g n) ≡ (if x then Some (suc (length g)) else next (bytes_eq q.name n) (last_place g n))
    go true = refl
    go false = refl

-- Sets of characters, as they are written.
use Rattle.std.proofs.Common.{◌≡◌, ℕ, List, [], ◌∷◌, Bool, true, false, ap₂, if◌then◌else◌, map, refl}
use Rattle.matcher_code.specs.Bytecodes.{set_in, sets_in}
use Rattle.matcher_code.specs.Lists.{CodeLists, is_covered}
use Rattle.matcher_code.specs.Ranges.{AreSorted}
use Rattle.matcher_code.specs.declared.ranges.RangeList.{RangeList}
use Rattle.matcher_code.proofs.Searching.{found_sorted}
use Rattle.format_code.specs.Codes.{order_of}

one_set : (ranges : List (ℕ × ℕ)) (b : Bool) → (b ≡ true → AreSorted ranges)
    → set_in (if b then 1 else 0) ranges ≡ is_covered ranges
one_set ranges true sorted = λ i c. found_sorted ranges c (sorted refl) i
one_set ranges false sorted = refl

pub sets_are : (rs : List RangeList)
    → sets_in (map order_of rs) (map (λ r. r.ranges.items) rs) ≡ map (λ r. is_covered r.ranges.items) rs
sets_are [] = refl
sets_are (r ∷ rs) = ap₂ (λ s ss. s ∷ ss) (one_set r.ranges.items r.is_sorted r.sorted) (sets_are rs)

pub lists_same : (a b : CodeLists) → a.ops ≡ b.ops → a.byte_sets ≡ b.byte_sets → a.sets ≡ b.sets → a.tables ≡ b.tables
    → a.texts ≡ b.texts → a.lists ≡ b.lists → a ≡ b
lists_same a b o r s t w l =
    λ i. record { ops = o i; byte_sets = r i; sets = s i; tables = t i; texts = w i; lists = l i }

-- Elements that come of one of some others.
use Rattle.std.proofs.Common.{◌≡◌, ◌<◌, ◌++◌, ℕ, List, get_or, length, subst, sym}
use Rattle.std.proofs.lemmas.List.Elements.{All-append}
use Rattle.std.specs.List.{All, Any}

-- elements more, which come of the one at an index
pub all_more : {X Y : Type 0} (P : X → Y → Type 0) (xs : List X) (i : ℕ) (x : X) (old more new : List Y) → i < length xs → x ≡ get_or xs i x
    → new ≡ old ++ more → All (λ y. Any (λ z. P z y) xs) old → All (P x) more → All (λ y. Any (λ z. P z y) xs) new
all_more {Y = Y} P xs i x old more new l is e before added =
    let Q : Y → Type 0 = λ y. Any (λ z. P z y) xs in
    subst (All Q) (sym e) (All-append Q old more before (λ k d h. (i, x, l, sym is, added k d h)))

-- The last equal name.
use Rattle.std.proofs.Common.{◌≡◌, ℕ, suc, ◌+◌, ◌<◌, List, [], ◌∷◌, ◌++◌, Option, Some, None, Bool, true, false, if◌then◌else◌, bytes_eq, length, refl, sym, ◌∙◌, ap, arith, nat_eq, get_or, take}
use Rattle.std.specs.Borrow.{Bor}
use Rattle.std.specs.Cmp.{unsigned_Decides}
use Rattle.std.proofs.lemmas.Bool.Decides.{same_from_decides}
use Rattle.std.proofs.lemmas.Slice.Eq.{slice_eq-Decides, bytes_eq-Decides}
use Rattle.std.proofs.lemmas.List.{take_more, length-take-le}
use lib.Pointwise.{pointwise}
use Rattle.front_analysis.specs.NamedPlaces.{last_name}

abbrev next : Bool → Option ℕ → Option ℕ
next b q = elim q [ Some k ↦ Some (suc k) | None ↦ if b then Some 0 else None ]

pub last_more : (ns : List (Bor (List ℕ))) (n : Bor (List ℕ)) (b : List ℕ) → last_name (ns ++ n ∷ []) b ≡ (if bytes_eq n.now b then Some (length ns) else last_name ns b)
last_more [] n b = refl
last_more (m ∷ ns) n b = ap (next (bytes_eq m.now b)) (last_more ns n b) ∙ go (bytes_eq n.now b)
  where
    go : (x : Bool) → next (bytes_eq m.now b) (if x then Some (length ns) else last_name ns b) ≡ (if x then Some (suc (length ns)) else next (bytes_eq m.now b) (last_name ns b))
    go true = refl
    go false = refl

texts_eq : (bs ds : List ℕ) → pointwise nat_eq bs ds ≡ bytes_eq bs ds
texts_eq bs ds = same_from_decides _ _ (slice_eq-Decides unsigned_Decides bs ds _ refl) (bytes_eq-Decides bs ds)

-- one name more was looked at
pub name_step : (ns : List (Bor (List ℕ))) (i : ℕ) (b : List ℕ) (d : Bor (List ℕ)) (r : Bool) (found after : Option ℕ) → i < length ns → r ≡ pointwise nat_eq (get_or ns i d).now b → found ≡ last_name (take i ns) b
    → after ≡ (if r then Some i else found) → after ≡ last_name (take (i + 1) ns) b
name_step ns i b d r found after h e f g =
    let l : length (take i ns) ≡ i = length-take-le i ns (omega arith) in
    let q : r ≡ bytes_eq (get_or ns i d).now b = e ∙ texts_eq (get_or ns i d).now b in
    g ∙ (ap (λ x. if x then Some i else found) q ∙ (ap (λ q. if bytes_eq (get_or ns i d).now b then Some i else q) f
    ∙ (ap (λ n. if bytes_eq (get_or ns i d).now b then Some n else last_name (take i ns) b) (sym l)
    ∙ (sym (last_more (take i ns) (get_or ns i d) b) ∙ ap (λ l. last_name l b) (sym (take_more ns i d h))))))

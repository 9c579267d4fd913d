-- Values that are made one after another.
use Rattle.std.proofs.Common.{◌≡◌, ◌∙◌, ℕ, ◌+◌, ◌<◌, List, [], ◌∷◌, ◌++◌, ap, append_assoc, get_or, length, map, sym, take}
use Rattle.std.proofs.lemmas.List.{map-append, take_more}
use Rattle.serde_json.specs.Data.{Data}
use Rattle.serde_json.specs.View.{view}
use Rattle.serde_json.specs.declared.value.Value.{Value}

-- one more value, which is that of the next item
pub one_more_value : {X : Type 0} (f : X → Data) (start : List Data) (xs : List X) (i : ℕ) (x : X) (old new : List Value) (value : Value) → x ≡ get_or xs i x → i < length xs → new ≡ old ++ value ∷ [] → view value ≡ f x
    → map view old ≡ start ++ map f (take i xs) → map view new ≡ start ++ map f (take (i + 1) xs)
one_more_value f start xs i x old new value at h added same before =
    let items : map f (take (i + 1) xs) ≡ map f (take i xs) ++ f x ∷ [] =
    ap (map f) (take_more xs i x h ∙ ap (λ y. take i xs ++ y ∷ []) (sym at)) ∙ map-append f (take i xs) (x ∷ []) in
    ap (map view) added ∙ map-append view old (value ∷ []) ∙ ap (λ vs. vs ++ view value ∷ []) before ∙ append_assoc start (map f (take i xs)) (view value ∷ [])
    ∙ ap (λ v. start ++ (map f (take i xs) ++ v ∷ [])) same ∙ ap (λ vs. start ++ vs) (sym items)

-- Changes in a list, one after another.
use Rattle.std.proofs.Common.{◌≡◌, ◌∙◌, ◌++◌, ◌∷◌, List, [], ap, append_assoc, arith, length, map, sym}
use Rattle.std.specs.List.{AllZip}
use Rattle.server_protocol.specs.declared.changes.Change.{Change}
use Rattle.server_protocol.specs.Changes.{HasNoChange, IsChangeIn, IsNoChange}
use Rattle.serde_json.specs.Data.{Data}

-- no place is left
pub none_left : {A B C : Type 0} (R : B → C → Type 0) (f : A → B) (xs : List A) → length xs ≡ 0 → AllZip R (map f xs) []
none_left R f [] e = tt
none_left R f (x ∷ xs) e = absurd (omega arith)

-- these values are read so far, and any changes of the others go on from some
abbrev pub ReadsOn : List Data → List Data → List Change → Type 0
ReadsOn all rest changes = ((before : List Data) × (all ≡ before ++ rest))
    × ((more : List Change) → AllZip IsChangeIn rest more → AllZip IsChangeIn all (changes ++ more))

-- one more change
pub reads_more : (all rest after : List Data) (value : Data) (old new : List Change) (change : Change) → rest ≡ value ∷ after → new ≡ old ++ change ∷ [] → IsChangeIn value change
    → ReadsOn all rest old → ReadsOn all after new
reads_more all rest after value old new change e q is ((before, s), go) = (
  (before ++ value ∷ [], s ∙ ap (λ l. before ++ l) e ∙ sym (append_assoc before (value ∷ []) after)),
  λ more h. rw (q, append_assoc) (go (change ∷ more) (rw e (is, h))),
)

-- a value that is no change
pub no_change : (all rest after : List Data) (value : Data) (old : List Change) → rest ≡ value ∷ after → IsNoChange value → ReadsOn all rest old → HasNoChange all
no_change all rest after value old e is ((before, s), go) = (before, value, after, s ∙ ap (λ l. before ++ l) e, is)

-- Lists of events.
use Rattle.std.proofs.Common.{◌≡◌, refl, ℕ, ◌+◌, List, ◌∷◌, ◌++◌, length, arith}
use Rattle.std.proofs.lemmas.List.{length-append}
use Rattle.base_language.specs.Language.Text.{Text}
use Rattle.base_language.specs.Language.State.{Trees, None', Tree}
use Rattle.front_syntax.specs.TokenEvents.{TokenEvent, Starts, Ends, events_of, event_count, IsWhole, nothing, pair}

pub length-events : (n : ℕ) (us : Trees) → length (events_of n us) ≡ event_count us
length-events n None' = refl
length-events n (Tree r i j inner others) =
    rw (length-append (events_of (n + 1) inner) (Ends j n ∷ events_of (n + 2 + event_count inner) others), length-events (n + 1) inner, length-events (n + 2 + event_count inner) others)
    (omega arith)

-- the events of trees are whole pairs
pub events-whole : (n : ℕ) (us : Trees) → IsWhole n (events_of n us)
events-whole n None' = nothing
events-whole n (Tree r i j inner others) =
    let x = events-whole (n + 1) inner in
    let y = events-whole (n + 2 + event_count inner) others in
    let e = length-events (n + 1) inner in
    whole_pair n r i j (events_of (n + 1) inner) _ (event_count inner) e x y
  where
    whole_pair : (n : ℕ) (r : Text) (i j : ℕ) (es fs : List TokenEvent) (c : ℕ) → length es ≡ c → IsWhole (n + 1) es → IsWhole (n + 2 + c) fs → IsWhole n (Starts r i (n + 1 + c) ∷ es ++ Ends j n ∷ fs)
    whole_pair n r i j es fs c e x y = let z : IsWhole (n + 2 + length es) fs = rw e y in rw (← e) (pair j x z)

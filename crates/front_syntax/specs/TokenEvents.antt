-- Trees as one flat list of events: where each tree starts, and where it ends.
use Rattle.std.specs.Prelude.{ℕ, ◌+◌, List, [], ◌∷◌, ◌++◌, length, map}
use Rattle.base_language.specs.Language.Text.{Text}
use Rattle.base_language.specs.Language.State.{Trees, None', Tree}
use Rattle.base_language.specs.Pieces.MetaRules.{name_of}
use Rattle.front_syntax.specs.declared.events.TokenEvent as code
use Rattle.front_syntax.specs.declared.events.TokenEvent.TheVariants as is

-- a tree starts, or ends, at a position; its other event is the one of a number
pub data TokenEvent : Type 0 where
  Starts : (rule : Text) (place partner : ℕ) → TokenEvent
  Ends : (place partner : ℕ) → TokenEvent

-- an event of the code, by its rule's name
abbrev pub event_of : code.TokenEvent → TokenEvent
event_of (is.Start r i m) = Starts (name_of r) i m
event_of (is.End j n) = Ends j n

-- the events of a list of the code
abbrev pub named_events : List code.TokenEvent → List TokenEvent
named_events es = map event_of es

-- how many events trees have
abbrev pub event_count : Trees → ℕ
event_count None' = 0
event_count (Tree r i j inner others) = event_count inner + 2 + event_count others

-- the events of trees, where the first has the number n
abbrev pub events_of : ℕ → Trees → List TokenEvent
events_of n None' = []
events_of n (Tree r i j inner others) =
    Starts r i (n + 1 + event_count inner) ∷ events_of (n + 1) inner
    ++ Ends j n ∷ events_of (n + 2 + event_count inner) others

-- whole pairs from the number n on: the partner of a start is a later end, its partner is that start, and
-- the events between them are whole again
pub data IsWhole : ℕ → List TokenEvent → Type 0 where
  nothing : {n : ℕ} → IsWhole n []
  pair : {n : ℕ} {r : Text} {i : ℕ} (j : ℕ) {inner others : List TokenEvent}
      → IsWhole (n + 1) inner → IsWhole (n + 2 + length inner) others
      → IsWhole n (Starts r i (n + 1 + length inner) ∷ inner ++ Ends j n ∷ others)

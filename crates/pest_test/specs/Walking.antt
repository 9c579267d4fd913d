-- Walks over the trees of a match, compared with expected events.
use Rattle.std.specs.Prelude.{◌≡◌, ℕ, List, [], ◌∷◌, Bool, true, false, codes}
use Rattle.matcher_engine.specs.Walks.{Enters, Leaves, Visit, Visited}
use Rattle.pest_test.specs.Agreement.{IsEntered}
use Rattle.pest_test.specs.declared.expected.Event.{Event}
use Rattle.pest_test.specs.declared.expected.Event.TheVariants.{Leave}

-- After a visit these events are left, if the walk was, or was not, inside a tree of `EOI` that is left out,
-- and is so afterwards.
pub data Follows (text : List ℕ) : List Event → Bool → Visit → List Event → Bool → Type 0 where
  enters : (t : Visited) (event : Event) (events : List Event)
      → IsEntered text t.rule t.node.start t.node.end event
      → Follows text (event ∷ events) false (Enters t) events false
  leaves : (t : Visited) (events : List Event)
      → Follows text (Leave ∷ events) false (Leaves t) events false
  enters_end : (t : Visited) (events : List Event) → t.rule ≡ codes "EOI"
      → Follows text events false (Enters t) events true
  leaves_end : (t : Visited) (events : List Event) → Follows text events true (Leaves t) events false

-- all visits follow the events, of which none is left
pub data FollowAll (text : List ℕ) : List Event → Bool → List Visit → Type 0 where
  none : FollowAll text [] false []
  more : {events left : List Event} {inside after : Bool} {visit : Visit} {visits : List Visit}
      → Follows text events inside visit left after → FollowAll text left after visits
      → FollowAll text events inside (visit ∷ visits)

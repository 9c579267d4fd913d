-- Single visits that follow events.
use Rattle.std.proofs.Common.{◌≡◌, ℕ, List, ◌∷◌, Bool, true, false, codes, subst, sym}
use Rattle.matcher_engine.specs.Walks.{Enters, Leaves, Visited}
use Rattle.pest_test.specs.Agreement.{IsEntered}
use Rattle.pest_test.specs.Walking.{Follows}
use Rattle.pest_test.specs.Walking.Follows.{enters, enters_end, leaves, leaves_end}
use Rattle.pest_test.specs.declared.expected.Event.{Event}
use Rattle.pest_test.specs.declared.expected.Event.TheVariants.{Leave}

pub enters_first : (text : List ℕ) (t : Visited) (event : Event) (all rest : List Event) (inside : Bool) → inside ≡ false
    → all ≡ event ∷ rest → IsEntered text t.rule t.node.start t.node.end event → Follows text all inside (Enters t) rest false
enters_first text t event all rest inside outside split is =
    subst (λ b. Follows text all b (Enters t) rest false) (sym outside)
    (subst (λ es. Follows text es false (Enters t) rest false) (sym split) (enters t event rest is))

pub enters_left_out : (text : List ℕ) (t : Visited) (all : List Event) (inside : Bool) → inside ≡ false → t.rule ≡ codes "EOI"
    → Follows text all inside (Enters t) all true
enters_left_out text t all inside outside end_ =
    subst (λ b. Follows text all b (Enters t) all true) (sym outside) (enters_end t all end_)

pub leaves_first : (text : List ℕ) (t : Visited) (all rest : List Event) (inside : Bool) → inside ≡ false → all ≡ Leave ∷ rest
    → Follows text all inside (Leaves t) rest false
leaves_first text t all rest inside outside split =
    subst (λ b. Follows text all b (Leaves t) rest false) (sym outside)
    (subst (λ es. Follows text es false (Leaves t) rest false) (sym split) (leaves t rest))

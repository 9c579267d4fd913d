use Rattle.std.proofs.Common.{◌≡◌, ◌+◌, List, ℕ}
use Rattle.matcher_machine.specs.declared.events.Event.{Event}
use Rattle.matcher_machine.specs.Events.{Spans}
use Rattle.matcher_machine.specs.Expansions.{Expands}
use Rattle.matcher_machine.proofs.events.Log.expand.Given as goal

abbrev pub invariant-loop-visits : goal.invariant-loop-visits
invariant-loop-visits l = (xs : List Event) (n : ℕ) → Spans l.self.entries.items 0 l.self.last xs n
    → (left : ℕ) × (n ≡ l.visits + left) × Expands l.self.entries.items l.expander xs left

use Rattle.std.proofs.Common.{◌≡◌, List, reverse, ℕ}
use Rattle.matcher_machine.specs.declared.events.Event.{Event}
use Rattle.matcher_machine.specs.Events.{Spans}
use Rattle.matcher_machine.specs.Expansions.{AreWaiting, playing}
use Rattle.matcher_machine.proofs.Expanding.{IsPart}
use Rattle.matcher_machine.proofs.expansion.Expander.push_frame.Given as goal

abbrev pub invariant-loop-last : goal.invariant-loop-last
invariant-loop-last l =
    ((xs rest : List Event) (visits left : ℕ) → Spans l.log.entries.items l.fn.from l.fn.to xs visits
    → AreWaiting l.log.entries.items (reverse l.fn.self.waiting.items) rest left
    → IsPart l.log.entries.items l.fn.from l.last (reverse l.self.waiting.items) xs rest visits left)
    × (playing l.self ≡ playing l.fn.self)

abbrev pub decreases-loop-last : goal.decreases-loop-last
decreases-loop-last l = l.last

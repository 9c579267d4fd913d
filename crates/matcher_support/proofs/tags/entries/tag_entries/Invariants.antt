use Rattle.std.proofs.Common.{◌≡◌, [], length}
use Rattle.matcher_engine.specs.Walks.{visits_left}
use Rattle.matcher_support.specs.TagEntries.{tagging_of, with_visits}
use Rattle.matcher_support.proofs.tags.entries.tag_entries.Given as goal

abbrev pub invariant-visits : goal.invariant-visits
invariant-visits l =
    with_visits (visits_left l.walk) (tagging_of l.tagged.items l.tags.items)
    ≡ with_visits (visits_left l.initial.walk) (record { entries = []; open_trees = [] })

abbrev pub decreases-visits : goal.decreases-visits
decreases-visits l = length (visits_left l.walk)

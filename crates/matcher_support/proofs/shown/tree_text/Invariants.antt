use Rattle.std.proofs.Common.{◌≡◌, ◌++◌, None, length, string_bytes}
use Rattle.std.specs.Prelude.{option_map}
use Rattle.matcher_engine.specs.Walks.{visit_of, visits_left}
use Rattle.matcher_support.specs.Flat.{flat}
use Rattle.matcher_support.proofs.shown.tree_text.Given as goal

abbrev pub invariant-visits : goal.invariant-visits
invariant-visits l = string_bytes l.lines ++ flat l.text l.level (option_map visit_of l.before) (visits_left l.walk) ≡ flat l.text 0 None (visits_left l.initial.walk)

abbrev pub decreases-visits : goal.decreases-visits
decreases-visits l = length (visits_left l.walk)

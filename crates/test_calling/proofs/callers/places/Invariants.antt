use Rattle.std.proofs.Common.{◌≡◌, ◌++◌, length, map}
use Rattle.std.specs.Vec.Iter.{into_iter_items, into_iter_len}
use Rattle.test_calling.specs.NamedPlaces.{named_place, named_place_of}
use Rattle.front_spanned.specs.Nodes.{rule_views}
use Rattle.test_calling.proofs.callers.places.Given as goal

-- what is there already, and what is still to come
abbrev pub invariant-loop-rule : goal.invariant-loop-rule
invariant-loop-rule l =
    (goal.iterator-loop-rule).can_next l.rule-iterator
    × (goal.iterator-loop-rule).is_finite l.rule-iterator
    × (map named_place (rule_views l.fn.rules.items) ≡ map named_place_of l.places.items ++ map named_place (rule_views (into_iter_items l.rule-iterator)))
    × (into_iter_len l.rule-iterator ≡ length (into_iter_items l.rule-iterator))

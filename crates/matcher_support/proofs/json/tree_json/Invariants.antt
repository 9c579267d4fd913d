use Rattle.std.proofs.Common.{◌≡◌, ◌++◌, false, length, string_bytes}
use Rattle.matcher_engine.specs.Walks.{visits_left}
use Rattle.matcher_support.specs.Json.{flat, head}
use Rattle.matcher_support.proofs.json.tree_json.Given as goal

abbrev pub invariant-visits : goal.invariant-visits
invariant-visits l = string_bytes l.json ++ flat l.text l.later (visits_left l.walk) ≡ head l.end ++ flat l.text false (visits_left l.initial.walk)

abbrev pub decreases-visits : goal.decreases-visits
decreases-visits l = length (visits_left l.walk)

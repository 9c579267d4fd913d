use Rattle.std.proofs.Common.{◌≡◌, false, take}
use Rattle.std.specs.List.{list_any}
use Rattle.base_graphs.specs.Least.{is_set_at}
use Rattle.front_restorer.specs.Calls.{number_changes}
use Rattle.front_restorer.proofs.summaries.is_shown.Given as goal

abbrev pub invariant-loop-rule : goal.invariant-loop-rule
invariant-loop-rule l = list_any (number_changes (is_set_at l.flags)) (take l.rule-index l.rule-items) ≡ false

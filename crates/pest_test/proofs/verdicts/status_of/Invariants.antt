use Rattle.std.proofs.Common.{◌≡◌, drop}
use Rattle.std.specs.List.{list_any}
use Rattle.pest_test.specs.Verdicts.{is_failure}
use Rattle.pest_test.proofs.verdicts.status_of.Given as goal

abbrev pub invariant-loop-verdict : goal.invariant-loop-verdict
invariant-loop-verdict l = list_any (is_failure l.is_update) (drop l.verdict-index l.verdicts)
    ≡ list_any (is_failure l.is_update) l.verdicts

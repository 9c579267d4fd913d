use Rattle.std.proofs.Common.{◌≡◌, ◌⊎◌}
use Rattle.pest_lint.proofs.fixes.show_fixes.Given as goal

abbrev pub invariant-loop-source : goal.invariant-loop-source
invariant-loop-source l = (l.status ≡ 0) ⊎ (l.status ≡ 1)

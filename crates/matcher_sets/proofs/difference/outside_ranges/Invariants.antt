use Rattle.matcher_code.specs.Lists.{is_covered}
use Rattle.std.proofs.Common.{◌≡◌, ◌<◌, ◌&&◌, ℕ, take}
use Rattle.std.specs.Prelude.{not}
use Rattle.matcher_sets.proofs.difference.outside_ranges.Given as goal

abbrev pub invariant-loop-from : goal.invariant-loop-from
invariant-loop-from l = (x : ℕ) → x < 1114112
    → is_covered l.rest.items x ≡ (not (is_covered (take l.from-index l.others.items) x) && is_covered l.initial.rest.items x)

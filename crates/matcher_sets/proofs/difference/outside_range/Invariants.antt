use Rattle.matcher_code.specs.Lists.{is_covered}
use Rattle.std.proofs.Common.{◌≡◌, ◌<◌, ◌&&◌, ℕ, take}
use Rattle.std.specs.Prelude.{not}
use Rattle.base_language.specs.Language.Builtins.{is_between}
use Rattle.matcher_sets.proofs.difference.outside_range.Given as goal

abbrev pub invariant-loop-low : goal.invariant-loop-low
invariant-loop-low l = (x : ℕ) → x < 1114112
    → is_covered l.rest.items x ≡ (not (is_between l.from l.to x) && is_covered (take l.low-index l.ranges.items) x)

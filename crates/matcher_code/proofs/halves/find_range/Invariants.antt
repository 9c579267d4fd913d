use Rattle.std.proofs.Common.{◌≡◌, ◌≤◌, ◌-◌, ℕ, length, map}
use Rattle.matcher_code.specs.Halves.{halved, place_of}
use Rattle.matcher_code.specs.Words.{pair_in}
use Rattle.matcher_code.proofs.halves.find_range.Given as goal

abbrev pub invariant-loop-low : goal.invariant-loop-low
invariant-loop-low l = let rs = map pair_in l.ranges in record {
  order : l.low ≤ l.high;
  within : l.high ≤ length l.ranges;
  least : l.first ≤ l.c;
  most : l.c ≤ l.last;
  rest : (d : ℕ) → l.first ≤ d → d ≤ l.last → halved rs d (l.high - l.low) l.low l.high ≡ place_of rs d;
}

abbrev pub decreases-loop-low : goal.decreases-loop-low
decreases-loop-low l = l.high - l.low

use Rattle.std.proofs.Common.{◌≡◌, ◌&&◌, ℕ, get_or, if◌then◌else◌, length, nat_lt}
use Rattle.std.specs.Prelude.{nat_le}
use Rattle.matcher_code.proofs.sets.mark.Given as goal

abbrev pub invariant-loop-byte : goal.invariant-loop-byte
invariant-loop-byte l = record {
  long : length l.byte_set.items ≡ 256;
  flags : (b : ℕ) → get_or l.byte_set.items b 0 ≡ (if nat_le l.low b && nat_lt b l.byte then 1 else get_or l.fn.byte_set.items b 0);
}

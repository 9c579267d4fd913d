use Rattle.std.proofs.Common.{◌≡◌, length, drop}
use Rattle.front_validator.specs.Flags.{AreOnlySet}
use Rattle.front_validator.proofs.flags.unset.Given as goal

abbrev pub invariant-loop-place : goal.invariant-loop-place
invariant-loop-place l = record {
  known : AreOnlySet (drop l.place-index l.noted) l.all;
  long : length l.all ≡ length l.fn.all;
}

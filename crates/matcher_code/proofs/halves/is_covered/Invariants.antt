use Rattle.std.proofs.Common.{◌≡◌, drop, map}
use Rattle.matcher_code.specs.Lists.{is_covered}
use Rattle.matcher_code.specs.Words.{pair_in}
use Rattle.matcher_code.proofs.halves.is_covered.Given as goal

abbrev pub invariant-loop-piece : goal.invariant-loop-piece
invariant-loop-piece l = is_covered (map pair_in l.ranges) l.c ≡ is_covered (map pair_in (drop l.piece-index l.ranges)) l.c

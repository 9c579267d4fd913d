use Rattle.std.proofs.Common.{◌≡◌}
use Rattle.program_support.specs.Excerpts.{columns_of}
use Rattle.program_support.proofs.excerpt.width_of.Given as goal

-- the columns of the characters so far
abbrev pub invariant-loop-character : goal.invariant-loop-character
invariant-loop-character l = l.width ≡ columns_of l.yielded

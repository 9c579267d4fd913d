use Rattle.std.proofs.Common.{◌≡◌, ◌++◌, string_bytes}
use Rattle.std.specs.List.{flat_map}
use Rattle.program_support.specs.Excerpts.{blanks_below}
use Rattle.program_support.proofs.excerpt.push_blanks.Given as goal

-- what stands below the characters so far
abbrev pub invariant-loop-character : goal.invariant-loop-character
invariant-loop-character l = string_bytes l.out ≡ string_bytes l.fn.out ++ flat_map blanks_below l.yielded

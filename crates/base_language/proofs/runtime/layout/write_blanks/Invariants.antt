use Rattle.std.proofs.Common.{map}
use Rattle.std.specs.Fmt.{HasWritten, IsPlainFormatter}
use Rattle.base_language.specs.Pieces.PrintedError.{blank_under}
use Rattle.base_language.proofs.runtime.layout.write_blanks.Given as goal

abbrev pub invariant-loop-c : goal.invariant-loop-c
invariant-loop-c g l =
    IsPlainFormatter l.initial.f → HasWritten g.W.Write.write_str_gives l.initial.f (map blank_under l.yielded) l.f

use Rattle.std.proofs.Common.{◌∷◌, encode_utf8_all}
use Rattle.std.specs.Fmt.{HasWritten, IsPlainFormatter}
use Rattle.std.specs.List.{flat_map}
use Rattle.base_ast.specs.Printing.{escaped}
use Rattle.base_ast.proofs.printing.fmt_literal.Given as goal

abbrev pub invariant-loop-c : goal.invariant-loop-c
invariant-loop-c g l =
    IsPlainFormatter l.fn.f
    → HasWritten g.W.Write.write_str_gives l.fn.f (encode_utf8_all (l.fn.quote ∷ flat_map (escaped l.fn.quote) l.yielded)) l.f

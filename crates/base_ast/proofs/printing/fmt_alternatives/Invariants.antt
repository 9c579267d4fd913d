use Rattle.std.proofs.Common.{◌≡◌, ◌∷◌, ◌++◌, take, String, Global}
use Rattle.std.specs.Fmt.{HasWritten, IsPlainFormatter}
use Rattle.std.specs.List.{flat_map}
use Rattle.base_ast.specs.PrintedBytes.{literal_bytes, one_more}
use Rattle.base_ast.proofs.printing.fmt_alternatives.Given as goal

abbrev pub invariant-loop-text : goal.invariant-loop-text
invariant-loop-text g l =
    (s : String Global) → l.texts ≡ s ∷ l.others → IsPlainFormatter l.fn.f
    → HasWritten g.W.Write.write_str_gives l.fn.f (literal_bytes s ++ flat_map one_more (take l.text-index l.others)) l.f

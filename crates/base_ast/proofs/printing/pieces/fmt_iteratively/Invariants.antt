use Rattle.std.proofs.Common.{◌≡◌, ℕ, ◌++◌, List}
use Rattle.std.specs.Fmt.{HasWritten, IsPlainFormatter}
use Rattle.base_ast.specs.Pieces.{in_turn, load}
use Rattle.base_ast.proofs.printing.pieces.fmt_iteratively.Given as goal

-- the pieces that are left come behind what is written
abbrev pub invariant-loop-piece : goal.invariant-loop-piece
invariant-loop-piece g l =
    IsPlainFormatter l.fn.f
    → (done : List ℕ) × HasWritten g.W.Write.write_str_gives l.fn.f done l.f
    × (done ++ in_turn g.E.Printed.bytes l.pieces.items ≡ (g.E.Printed.bytes l.expr).alone)

abbrev pub decreases-loop-piece : goal.decreases-loop-piece
decreases-loop-piece g l = load g.E.Printed.heft l.pieces.items

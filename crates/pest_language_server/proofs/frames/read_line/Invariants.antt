use Rattle.std.proofs.Common.{◌≢◌, ◌≤◌, ◌-◌, All, length}
use Rattle.std.specs.Io.KnownBytes.{Consumes}
use Rattle.pest_language_server.proofs.frames.read_line.Given as goal

abbrev pub invariant-loop-input : goal.invariant-loop-input
invariant-loop-input g l = All (λ byte. byte ≢ 10) l.line.items × (length l.line.items ≤ 1024)
    × Consumes (g.R.Read.remaining l.initial.input) (g.R.Read.remaining l.input) l.line.items

abbrev pub decreases-loop-input : goal.decreases-loop-input
decreases-loop-input g l = 1024 - length l.line.items

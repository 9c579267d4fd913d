use Rattle.std.proofs.Common.{◌≡◌, ◌+◌, ℕ, List, length}
use Rattle.std.specs.Io.KnownBytes.{Consumes}
use Rattle.pest_language_server.proofs.frames.skip_bytes.Given as goal

abbrev pub invariant-loop-rest : goal.invariant-loop-rest
invariant-loop-rest g l = (taken : List ℕ) × (length taken + l.rest ≡ l.count) × Consumes (g.R.Read.remaining l.initial.input) (g.R.Read.remaining l.input) taken

abbrev pub decreases-loop-rest : goal.decreases-loop-rest
decreases-loop-rest g l = l.rest

use Rattle.std.proofs.Common.{◌≡◌, ◌-◌, ◌≤◌, ℕ, List, length}
use Rattle.std.specs.List.{concat}
use Rattle.std.specs.Io.KnownBytes.{Consumes}
use Rattle.pest_language_server.specs.Frames.{AreLines, SaysLast}
use Rattle.pest_language_server.proofs.frames.read_head.Given as goal

abbrev pub invariant-loop-count : goal.invariant-loop-count
invariant-loop-count g l = (l.count ≤ 64) × ((lines : List (List ℕ)) × (length lines ≡ l.count) × AreLines lines × SaysLast lines l.length
    × Consumes (g.R.Read.remaining l.initial.input) (g.R.Read.remaining l.input) (concat lines))

abbrev pub decreases-loop-count : goal.decreases-loop-count
decreases-loop-count g l = 64 - l.count

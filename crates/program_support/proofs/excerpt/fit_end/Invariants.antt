use Rattle.std.proofs.Common.{◌*◌, ◌≤◌}
use Rattle.program_support.proofs.excerpt.fit_end.Given as goal

-- the fit so far
abbrev pub invariant-loop-character : goal.invariant-loop-character
invariant-loop-character l = record {
  bytes : l.fit.bytes ≤ 4 * l.fit.columns;
  columns : l.fit.columns ≤ l.most;
}

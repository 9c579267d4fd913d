use Rattle.std.proofs.Common.{◌≡◌, ◌≤◌, All, map, take}
use Rattle.serde_json.specs.View.{view}
use Rattle.pest_lint.specs.Shows.{IsClean, asked_of}
use Rattle.pest_lint.proofs.Logging.{GoesOn}
use Rattle.pest_lint.proofs.log.log_files.Given as goal

-- nothing was refused, and with the files that are left all are logged
abbrev pub invariant-loop-source : goal.invariant-loop-source
invariant-loop-source g l = record {
  known : l.status ≤ 3;
  clean : l.status ≡ 0 → All IsClean (take l.source-index l.sources);
  logs : GoesOn (asked_of l.settings) l.sources l.source-index l.status (map view l.results.items);
}

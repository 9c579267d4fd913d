use Rattle.std.proofs.Common.{◌≡◌, ◌<◌, ℕ, false, get_or}
use Rattle.front_names.specs.declared.findings.NameFinding.{NameFinding}
use Rattle.pest_run.specs.Properties.{is_missing}
use Rattle.pest_run.proofs.properties.first_missing.Given as goal

-- the findings that were visited are of no such name
abbrev pub invariant-loop-finding : goal.invariant-loop-finding
invariant-loop-finding l = (k : ℕ) (d : NameFinding) → k < l.finding-index → is_missing (get_or l.findings k d) ≡ false

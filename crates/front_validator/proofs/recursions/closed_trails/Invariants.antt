use Rattle.std.proofs.Common.{◌≡◌, ◌<◌, ℕ, []}
use Rattle.std.specs.List.{range_with_len}
use Rattle.front_spanned.specs.Nodes.{rule_views}
use Rattle.front_validator.specs.Findings.{OfRecursion, Reports}
use Rattle.front_validator.specs.Reporting.{findings_of}
use Rattle.front_validator.specs.Searching.{IsIdle, NeverComesBack}
use Rattle.front_validator.proofs.recursions.closed_trails.Given as goal

abbrev pub invariant-loop-place : goal.invariant-loop-place
invariant-loop-place l = record {
  exact : Reports (OfRecursion (rule_views l.rules)) (range_with_len 0 l.place) (findings_of l.found.items);
  idle : IsIdle l.rules l.walk;
  none : findings_of l.found.items ≡ [] → (k : ℕ) → k < l.place → NeverComesBack l.rules l.facts.table.roots.items k;
}

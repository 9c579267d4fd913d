use Rattle.std.proofs.Common.{◌≡◌, drop, take}
use Rattle.base_ast.specs.Optimized.{optimized_rules_of}
use Rattle.front_restorer.specs.Restoring.{restored_rules_by}
use Rattle.front_restorer.specs.KnownChanges.{changes_stack}
use Rattle.front_restorer.proofs.restorer.restore_all.Given as goal

abbrev pub invariant-loop-place : goal.invariant-loop-place
invariant-loop-place l = record {
  made : optimized_rules_of (take l.place l.rules) ≡ restored_rules_by (changes_stack l.changes) (optimized_rules_of (take l.place l.fn.rules));
  others : drop l.place l.rules ≡ drop l.place l.fn.rules;
}

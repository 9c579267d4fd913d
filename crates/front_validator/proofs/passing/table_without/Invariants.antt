use Rattle.std.proofs.Common.{◌≡◌, take, map}
use Rattle.front_validator.specs.Without.{without_kind}
use Rattle.front_validator.proofs.passing.table_without.Given as goal

abbrev pub invariant-loop-kind : goal.invariant-loop-kind
invariant-loop-kind l = l.kinds.items ≡ map (without_kind l.rule) (take l.kind-index l.table.kinds.items)

abbrev pub invariant-loop-root : goal.invariant-loop-root
invariant-loop-root l = l.roots.items ≡ take l.root-index l.table.roots.items

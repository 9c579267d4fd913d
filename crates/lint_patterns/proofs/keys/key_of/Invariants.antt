use Rattle.std.proofs.Common.{◌≡◌, ◌≤◌, ◌++◌, length}
use Rattle.std.specs.Prelude.{flat_map}
use Rattle.front_spanned.specs.Nodes.{view}
use Rattle.front_spanned.specs.Walk.{preorder, waiting}
use Rattle.lint_patterns.specs.Keys.{sign}
use Rattle.lint_patterns.proofs.keys.key_of.Given as goal

abbrev pub invariant-loop-next : goal.invariant-loop-next
invariant-loop-next l = record {
  numbers : l.key.items ++ flat_map sign (waiting l.stack.items) ≡ flat_map sign (preorder (view l.fn.node));
  few : length l.key.items ≤ 256;
}

abbrev pub decreases-loop-next : goal.decreases-loop-next
decreases-loop-next l = length (waiting l.stack.items)

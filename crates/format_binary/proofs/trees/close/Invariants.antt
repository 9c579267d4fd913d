use Rattle.std.proofs.Common.{◌≡◌, ◌++◌, length}
use Rattle.format_binary.specs.Format.{optimized_expression_bytes}
use Rattle.format_binary.specs.Fronts.{missing}
use Rattle.format_binary.specs.Indices.{HasIndices}
use Rattle.format_binary.specs.Reading.{AreWithin, open_bytes}
use Rattle.format_binary.proofs.trees.close.Given as goal

-- what is made stands behind the operators that are left
abbrev pub invariant-operators : goal.invariant-operators
invariant-operators l = record {
  bytes : open_bytes l.waiting.items ++ optimized_expression_bytes l.made.value ≡ open_bytes l.fn.waiting.items ++ optimized_expression_bytes l.fn.expr;
  indices : AreWithin l.fn.waiting.items → HasIndices l.fn.expr → AreWithin l.waiting.items × HasIndices l.made.value;
  missing : missing l.fn.waiting.items ≡ missing l.waiting.items;
}

abbrev pub decreases-operators : goal.decreases-operators
decreases-operators l = length l.waiting.items

use Rattle.std.proofs.Common.{◌≡◌, ◌+◌, length, reverse}
use Rattle.front_syntax.specs.Building.{first_sizes, other_sizes}
use Rattle.front_syntax.proofs.trees.take_sizes.Given as goal

abbrev pub invariant-sizes : goal.invariant-sizes
invariant-sizes l = record {
  count : l.count + length (first_sizes l.left (reverse l.sizes.items)) ≡ length (first_sizes l.nodes (reverse l.fn.sizes.items));
  others : other_sizes l.left (reverse l.sizes.items) ≡ other_sizes l.nodes (reverse l.fn.sizes.items);
  fewer : length l.sizes.items + l.count ≡ length l.fn.sizes.items;
}

abbrev pub decreases-sizes : goal.decreases-sizes
decreases-sizes l = length l.sizes.items

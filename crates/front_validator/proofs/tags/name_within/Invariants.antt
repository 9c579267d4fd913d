use Rattle.std.proofs.Common.{◌≡◌, length}
use Rattle.front_spanned.specs.Nodes.{view}
use Rattle.front_spanned.specs.Walk.{preorder}
use Rattle.front_validator.specs.Tags.{name_within}
use Rattle.front_validator.proofs.tags.name_within.Given as goal

abbrev pub invariant-inward : goal.invariant-inward
invariant-inward l = name_within (view l.inner) ≡ name_within (view l.fn.node)

abbrev pub decreases-inward : goal.decreases-inward
decreases-inward l = length (preorder (view l.inner))

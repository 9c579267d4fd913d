use Rattle.std.proofs.Common.{◌≡◌, ◌++◌, length, map}
use Rattle.serde_json.specs.View.{view}
use Rattle.format_json.specs.Placed.{span_data}
use Rattle.front_spanned.specs.Nodes as nodes
use Rattle.front_spanned.specs.Spanned.{span_of}
use Rattle.front_spanned.specs.Walk.{preorder, waiting}
use Rattle.format_json.proofs.placed.spans_value.Given as goal

-- the places of what waits come behind those that are written
abbrev pub invariant-loop-next : goal.invariant-loop-next
invariant-loop-next l =
    map view l.spans.items ++ map (λ x. span_data (span_of x)) (waiting l.waiting.items)
    ≡ map (λ x. span_data (span_of x)) (preorder (nodes.view l.node))

abbrev pub decreases-loop-next : goal.decreases-loop-next
decreases-loop-next l = length (waiting l.waiting.items)

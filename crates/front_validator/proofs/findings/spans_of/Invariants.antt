use Rattle.std.proofs.Common.{◌≡◌, map, take}
use Rattle.front_spanned.specs.Nodes.{piece_of}
use Rattle.front_validator.proofs.findings.spans_of.Given as goal

abbrev pub invariant-loop-place : goal.invariant-loop-place
invariant-loop-place l = map piece_of l.spans.items ≡ map (λ n. piece_of n.span.now) (take l.place l.table.nodes.items)

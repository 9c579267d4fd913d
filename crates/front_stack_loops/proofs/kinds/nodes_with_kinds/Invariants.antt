use Rattle.std.proofs.Common.{◌≡◌, map, take}
use Rattle.front_analysis.specs.Names.{grammar_of}
use Rattle.front_stack_loops.specs.Names.{kind_in}
use Rattle.front_stack_loops.proofs.KindLemmas.{node_of}
use Rattle.front_stack_loops.proofs.kinds.nodes_with_kinds.Given as goal

abbrev pub invariant-loop-place : goal.invariant-loop-place
invariant-loop-place l =
    l.nodes.items ≡ map (node_of (kind_in (grammar_of l.grammar.rules.now))) (take l.place l.grammar.table.nodes.items)

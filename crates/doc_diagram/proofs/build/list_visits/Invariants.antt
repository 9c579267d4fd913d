use Rattle.std.proofs.Common.{◌≡◌, ◌≤◌, ℕ, ◌+◌, ◌*◌, List, ◌++◌, Option}
use Rattle.std.specs.List.{flat_map}
use Rattle.doc_diagram.specs.Marks.{diagram_marks}
use Rattle.doc_diagram.specs.Steps.{all_sizes, in_turn, load, size}
use Rattle.doc_diagram.proofs.build.list_visits.Given as goal

abbrev pub invariant-loop-next : goal.invariant-loop-next
invariant-loop-next l = record {
  marks : (n : List ℕ → Option ℕ) → flat_map (λ e. diagram_marks n e.now) l.waiting.items ++ in_turn n l.visits.items
      ≡ diagram_marks n l.left ++ diagram_marks n l.right;
  work : 4 * all_sizes l.waiting.items + load l.visits.items ≤ 4 * size l.left + 4 * size l.right;
}

abbrev pub decreases-loop-next : goal.decreases-loop-next
decreases-loop-next l = all_sizes l.waiting.items

use Rattle.std.proofs.Common.{◌≤◌, length}
use Rattle.doc_pages.proofs.first_sets.FirstSearch.run.Given as goal

abbrev pub invariant-loop-visit : goal.invariant-loop-visit
invariant-loop-visit l = length l.fn.self.labels.items ≤ 12 → length l.self.labels.items ≤ 12

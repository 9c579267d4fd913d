-- Sound and closed answers to a question for all nodes of a table.
use Rattle.std.specs.Prelude.{ℕ, List, Bool}
use Rattle.base_graphs.specs.Least as least
use Rattle.base_graphs.specs.Least.{Follows}
use Rattle.front_analysis.specs.KindTable.{fires}
use Rattle.front_analysis.specs.declared.kind_table.Question.{Question}
use Rattle.front_analysis.specs.declared.kind_table.KindTable.{KindTable}

-- the answer for a node is yes
abbrev pub Holds : Question → KindTable → ℕ → Type 0
Holds q t = Follows (fires q t.roots.items) t.kinds.items

-- as many answers as nodes, and all of them right
abbrev pub AreSound : Question → KindTable → List Bool → Type 0
AreSound q t = least.AreSound (fires q t.roots.items) t.kinds.items

-- the answer is yes for every node of which that follows from other answers
abbrev pub AreClosed : Question → KindTable → List Bool → Type 0
AreClosed q t = least.AreClosed (fires q t.roots.items) t.kinds.items

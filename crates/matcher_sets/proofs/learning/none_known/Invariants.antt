use Rattle.std.proofs.Common.{◌≡◌, ℕ, None, get_or}
use Rattle.matcher_sets.proofs.learning.none_known.Given as goal

abbrev pub invariant-rules : goal.invariant-rules
invariant-rules l = (k : ℕ) → get_or l.list.items k None ≡ None

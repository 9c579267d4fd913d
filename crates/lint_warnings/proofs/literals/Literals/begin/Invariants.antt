use Rattle.std.proofs.Common.{◌≡◌, ℕ, ◌<◌, get_or, take, false}
use Rattle.std.specs.Str.{IsCharBoundary}
use Rattle.lint_warnings.specs.Lists.{IsKnown}
use Rattle.lint_warnings.proofs.literals.Literals.begin.Given as goal

abbrev pub invariant-loop-length : goal.invariant-loop-length
invariant-loop-length l = (k : ℕ) → k < l.length-index → let n = get_or l.self.lengths.items k 0 in IsCharBoundary l.text n → IsKnown l.self (take n l.text) ≡ false

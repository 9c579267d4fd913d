use Rattle.std.proofs.Common.{◌≡◌, ◌+◌, ◌++◌, map}
use Rattle.lint_patterns.proofs.keys.push_characters.Given as goal

abbrev pub invariant-loop-character : goal.invariant-loop-character
invariant-loop-character l = l.key.items ≡ l.fn.key.items ++ map (λ c. c + 1) l.yielded

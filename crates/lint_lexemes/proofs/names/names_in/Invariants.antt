use Rattle.std.proofs.Common.{◌≡◌, ◌++◌, ◌+◌, ◌≤◌, length}
use Rattle.lint_lexemes.specs.Lexemes.{names_in}
use Rattle.lint_lexemes.proofs.names.names_in.Given as goal

abbrev pub invariant-loop-lexeme : goal.invariant-loop-lexeme
invariant-loop-lexeme l = (l.names.items ++ names_in l.depth l.rest ≡ names_in 0 l.lexemes) × (l.depth + length l.rest ≤ length l.lexemes)

abbrev pub decreases-loop-lexeme : goal.decreases-loop-lexeme
decreases-loop-lexeme l = length l.rest

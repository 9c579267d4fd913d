use Rattle.std.proofs.Common.{◌≡◌, ◌+◌, length}
use Rattle.lint_lexemes.specs.Lexemes.{index_at}
use Rattle.lint_lexemes.proofs.site.index_at.Given as goal

abbrev pub invariant-loop-lexeme : goal.invariant-loop-lexeme
invariant-loop-lexeme l = (l.index + index_at l.position l.rest ≡ index_at l.position l.lexemes) × (l.index + length l.rest ≡ length l.lexemes)

abbrev pub decreases-loop-lexeme : goal.decreases-loop-lexeme
decreases-loop-lexeme l = length l.rest

use Rattle.std.proofs.Common.{◌≡◌, [], length}
use Rattle.lint_lexemes.specs.Lexemes.{open_in}
use Rattle.lint_lexemes.proofs.site.open_in.Given as goal

abbrev pub invariant-loop-lexeme : goal.invariant-loop-lexeme
invariant-loop-lexeme l = open_in l.brackets.items l.rest ≡ open_in [] l.lexemes

abbrev pub decreases-loop-lexeme : goal.decreases-loop-lexeme
decreases-loop-lexeme l = length l.rest

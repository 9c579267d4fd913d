use Rattle.std.proofs.Common.{◌≤◌, List, ◌++◌, length}
use Rattle.lint_lexemes.specs.Lexemes.{AreInOrder}
use Rattle.lint_lexemes.specs.declared.lexer.Lexeme.{Lexeme}
use Rattle.lint_lexemes.proofs.lexer.lexemes.Given as goal

-- with lexemes from the next byte on all are in order
abbrev pub invariant-loop-start : goal.invariant-loop-start
invariant-loop-start l = record {
  within : l.next ≤ length l.text;
  rest : (more : List Lexeme) → AreInOrder l.next more (length l.text) → AreInOrder 0 (l.lexemes.items ++ more) (length l.text);
}

use Rattle.std.proofs.Common.{rules}
use Rattle.lint_lexemes.proofs.InOrder.{inside}
use Rattle.lint_lexemes.proofs.lexer.byte_at.Goals as goal

pub returns-clause-inside : goal.returns-clause-inside
returns-clause-inside c = λ n. inside c.args.bytes.now c.args.at _ (search rules) n

use Rattle.std.proofs.Common.{arith}
use Rattle.std.proofs.lemmas.Str.{IsCharBoundary-start}
use Rattle.lint_diagnostics.proofs.difference.end_message.Goals as goal

pub returns-in-None-clause-told : goal.returns-in-None-clause-told
returns-in-None-clause-told c = rw c.in-At.is (c.in-None.ensures.cases (omega arith) (IsCharBoundary-start c.args.text.now c.utf8.text))

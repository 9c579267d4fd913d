use Rattle.base_language.specs.Language.Expression.{comment, whitespace}
use Rattle.front_validator.proofs.Subjects.{named_so}
use Rattle.front_validator.proofs.problems.LoopBody.of_rule.Goals as goal

pub returns-then-is_literal-clause-subject : goal.returns-then-is_literal-clause-subject
returns-then-is_literal-clause-subject c =
    named_so c.args.name.now c.whitespace_name.result.now whitespace c.is_literal.result c.whitespace_name.ensures.ascii c.whitespace_name.ensures.named c.is_literal.ensures c.if-is_literal.true

pub returns-then-is_literal-2-clause-subject : goal.returns-then-is_literal-2-clause-subject
returns-then-is_literal-2-clause-subject c =
    named_so c.args.name.now c.comment_name.result.now comment c.is_literal-2.result c.comment_name.ensures.ascii c.comment_name.ensures.named c.is_literal-2.ensures c.if-is_literal-2.true

use Rattle.std.proofs.Common.{◌∙◌, ap, chars, sym}
use Rattle.base_ast.specs.Ast.{expression_of}
use Rattle.lint_patterns.specs.Rewritten.{cannot_fail, is_empty}
use Rattle.lint_patterns.proofs.Empty.{empty_text}
use Rattle.lint_patterns.proofs.lists.cannot_fail.Goals as goal

pub returns-in-Str : goal.returns-in-Str
returns-in-Str c = λ f known.
    c.is_empty.ensures
    ∙ (empty_text c.as_str.result.now c.as_str.utf8
    ∙ (ap (λ t. is_empty (chars t)) c.as_str.ensures.value ∙ ap (λ e. cannot_fail f (expression_of e)) (sym c.in-Str.is)))

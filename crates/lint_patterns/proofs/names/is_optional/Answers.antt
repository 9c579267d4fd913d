use Rattle.std.proofs.Common.{◌∙◌, ap, chars, sym}
use Rattle.lint_patterns.specs.Rewritten.{cannot_fail, is_empty, no_names}
use Rattle.lint_patterns.proofs.Empty.{empty_text}
use Rattle.front_spanned.specs.Erasure.{without_spans}
use Rattle.front_spanned.specs.Nodes.{piece_of, view_at}
use Rattle.lint_patterns.proofs.names.is_optional.Goals as goal

pub returns-in-Str : goal.returns-in-Str
returns-in-Str c =
    c.is_empty.ensures
    ∙ (empty_text c.as_str.result.now c.as_str.utf8
    ∙ (ap (λ t. is_empty (chars t)) c.as_str.ensures.value
    ∙ ap (λ e. cannot_fail no_names (without_spans (view_at (piece_of c.args.node.now.span) e))) (sym c.in-Str.is)))

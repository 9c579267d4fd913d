use Rattle.std.proofs.Common.{◌≡◌, ◌++◌, IfOk, ap, codes, encode_utf8_all, string_bytes, subst, sym, ◌∙◌}
use Rattle.base_ast.specs.Ast.{expression_of, text_of}
use Rattle.base_ast.specs.Printing.{bound_literal, printed}
use Rattle.doc_diagram.specs.Labels.{leaf_label, shortened}
use Rattle.doc_diagram.proofs.Bytes.{parenthesized_bytes}
use Rattle.doc_diagram.proofs.labels.leaf_label.Goals as goal

pub returns-in-Range : goal.returns-in-Range
returns-in-Range c =
    let inner = bound_literal (text_of c.in-Range.field-0) ++ codes ".." ++ bound_literal (text_of c.in-Range.field-1) in
    let stripped : c.strip_parentheses.result.now ≡ encode_utf8_all inner =
    c.strip_parentheses.ensures (encode_utf8_all inner)
    (c.as_str.ensures.value ∙ c.in_ok-printed.ensures.ok
    ∙ ap (λ e. encode_utf8_all (printed (expression_of e))) c.in-Range.is ∙ parenthesized_bytes inner) in
    subst (λ t. IfOk c.shorten.result (λ label. string_bytes label ≡ t))
    (ap shortened stripped ∙ sym (ap (λ e. leaf_label (expression_of e)) c.in-Range.is)) c.shorten.ensures

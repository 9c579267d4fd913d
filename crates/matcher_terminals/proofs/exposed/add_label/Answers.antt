use Rattle.std.proofs.Common.{◌≡◌, sym, ◌∙◌, ap, ap₂}
use Rattle.std.proofs.lemmas.Str.{IsUtf8-string_bytes, chars_from_encodes}
use Rattle.base_language.specs.Language.Expression.{NodeTag}
use Rattle.base_ast.specs.Ast.{text_of}
use Rattle.base_ast.specs.Optimized.{optimized_expression_of}
use Rattle.base_ast.specs.Printing.{printed}
use Rattle.matcher_terminals.proofs.exposed.add_label.Goals as goal

pub returns : goal.returns
returns c =
    let e = optimized_expression_of c.args.terminal in
    let t : text_of c.in_ok-label.label ≡ printed e = sym (chars_from_encodes (printed e) _ (IsUtf8-string_bytes c.in_ok-label.label) (sym c.in_ok-label.ensures.ok)) in
    ap₂ NodeTag (ap optimized_expression_of (ap (λ b. b.value) c.into_inner.ensures ∙ c.in_ok-operand.ensures)) t

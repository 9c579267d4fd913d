use Rattle.std.proofs.Common.{◌≡◌, ◌∙◌, true, ◌&&◌, ◌||◌, ap, sym, bytes_eq, chars, cond}
use Rattle.base_ast.proofs.Characters.{bytes_text_eq}
use Rattle.base_ast.specs.Ast.{text_of}
use Rattle.lint_patterns.specs.Rewritten.{cannot_fail, no_names}
use Rattle.front_spanned.specs.Erasure.{without_spans}
use Rattle.front_spanned.specs.Nodes.{view}
use Rattle.lint_warnings.specs.Lists.{has_name}
use Rattle.lint_warnings.proofs.Known.{inserted}
use Rattle.lint_warnings.proofs.Names.{cond_or}
use Rattle.lint_patterns.proofs.names.add_where_optional.Goals as goal

pub returns-in_ok-insert : goal.returns-in_ok-insert
returns-in_ok-insert c = λ name u.
    let had = has_name c.args.names.now name in
    let own = c.as_str.result.now in
    let yes : cannot_fail no_names (without_spans (view c.args.rule.now.node)) ≡ true = sym c.is_optional.ensures ∙ c.if-is_optional.true in
    inserted c.args.names.now c.insert.new.self c.as_str.result name c.in_ok-insert.ensures.updates
    ∙ (ap (λ b. cond b true had) (bytes_text_eq own name c.as_str.utf8 u)
    ∙ (cond_or (bytes_eq (chars own) (chars name)) had
    ∙ (ap (λ t. had || bytes_eq (chars t) (chars name)) c.as_str.ensures.value
    ∙ ap (λ b. had || (b && bytes_eq (text_of c.args.rule.now.name) (chars name))) (sym yes))))

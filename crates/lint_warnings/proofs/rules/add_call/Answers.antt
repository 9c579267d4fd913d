use Rattle.std.proofs.Common.{◌∙◌, ◌&&◌, ◌||◌, ap, sym, bytes_eq, chars, cond, not, string_bytes, true}
use Rattle.std.proofs.lemmas.Str.{IsUtf8-string_bytes}
use Rattle.base_ast.specs.Ast.{text_of}
use Rattle.base_ast.proofs.Characters.{bytes_text_eq}
use Rattle.base_language.specs.Language.Builtins.{is_one_of}
use Rattle.front_spanned.specs.Nodes.{piece_of, view_at}
use Rattle.lint_warnings.specs.Lists.{has_name}
use Rattle.lint_warnings.specs.Rules.{name_called}
use Rattle.lint_warnings.proofs.Known.{inserted}
use Rattle.lint_warnings.proofs.Names.{call_added, other_name}
use Rattle.lint_warnings.proofs.rules.add_call.Goals as goal

pub returns-in_ok-insert : goal.returns-in_ok-insert
returns-in_ok-insert c = λ name u.
    let own = text_of c.args.own.now in
    let new = c.in-Ident.name in
    let key = c.as_str.result in
    let had = has_name c.args.called.now name in
    let called = ap (λ e. name_called (view_at (piece_of c.args.node.now.span) e)) c.in-Ident.is in
    inserted c.args.called.now c.insert.new.self key name c.in_ok-insert.ensures.updates
    ∙ (ap (λ b. cond b true had) (ap (λ t. bytes_eq t name) c.as_str.ensures.value ∙ bytes_text_eq (string_bytes new) name (IsUtf8-string_bytes new) u)
    ∙ (call_added (bytes_eq (text_of new) (chars name)) (bytes_eq own (chars name)) had (other_name (text_of new) own (chars name) c.same_text.result c.same_text.ensures.exact c.if-not-same_text.true)
    ∙ ap (λ l. had || (not (bytes_eq own (chars name)) && is_one_of l (chars name))) (sym called)))

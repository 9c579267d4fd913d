use Rattle.std.proofs.Common.{◌∙◌, ap, bytes_eq, string_bytes}
use Rattle.std.proofs.lemmas.Str.{IsUtf8-string_bytes}
use Rattle.base_ast.specs.Ast.{text_of}
use Rattle.base_ast.proofs.Characters.{bytes_text_eq}
use Rattle.lint_warnings.proofs.Sets.{name_characters}
use Rattle.lint_warnings.proofs.rules.is_named.Goals as goal

pub returns : goal.returns
returns c =
    let own = c.args.name.now in
    let known = c.name.result.now in
    c.eq.ensures
    ∙ (ap (λ t. bytes_eq t known) c.as_str.ensures.value
    ∙ (bytes_text_eq (string_bytes own) known (IsUtf8-string_bytes own) c.name.utf8
    ∙ ap (bytes_eq (text_of own)) (name_characters c.args.builtin known c.name.ensures)))

use Rattle.std.proofs.Common.{◌∙◌, ap, bytes_eq, chars}
use Rattle.std.proofs.lemmas.Str.{chars-IsAscii}
use Rattle.base_ast.proofs.Characters.{bytes_text_eq}
use Rattle.lint_warnings.proofs.rules.is_literal.Goals as goal

pub returns : goal.returns
returns c =
    c.eq.ensures
    ∙ (bytes_text_eq c.args.name.now c.args.literal.now c.utf8.name c.utf8.literal
    ∙ ap (bytes_eq (chars c.args.name.now)) (chars-IsAscii c.args.literal.now c.requires))

use Rattle.std.proofs.Common.{◌∙◌}
use Rattle.base_ast.proofs.Characters.{bytes_text_eq}
use Rattle.matcher_program.proofs.texts.same.Goals as goal

pub returns : goal.returns
returns c = c.eq.ensures ∙ bytes_text_eq _ _ c.utf8.a c.utf8.b

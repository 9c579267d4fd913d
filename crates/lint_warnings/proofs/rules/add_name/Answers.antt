use Rattle.std.proofs.Common.{◌∙◌, ap, cond, true, bytes_eq, chars}
use Rattle.base_ast.proofs.Characters.{bytes_text_eq}
use Rattle.lint_warnings.specs.Lists.{has_name}
use Rattle.lint_warnings.proofs.Known.{inserted}
use Rattle.lint_warnings.proofs.Names.{cond_or}
use Rattle.lint_warnings.proofs.rules.add_name.Goals as goal

pub returns : goal.returns
returns c = λ other u.
    let had = has_name c.args.set.now other in
    inserted c.args.set.now c.insert.new.self c.args.name other c.in_ok-insert.ensures.updates
    ∙ (ap (λ b. cond b true had) (bytes_text_eq c.args.name.now other c.utf8.name u)
    ∙ cond_or (bytes_eq (chars c.args.name.now) (chars other)) had)

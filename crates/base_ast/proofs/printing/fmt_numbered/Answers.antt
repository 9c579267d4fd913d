use Rattle.std.proofs.Common.{sym, rules}
use Rattle.std.proofs.Output.{has_written_of_eq}
use Rattle.base_ast.proofs.Literals.{encodes-numbered}
use Rattle.base_ast.proofs.printing.fmt_numbered.Goals as goal

pub returns : goal.returns
returns g c plain ok = has_written_of_eq _ _ _ _ _ (sym (encodes-numbered c.args.c c.requires)) (search rules)

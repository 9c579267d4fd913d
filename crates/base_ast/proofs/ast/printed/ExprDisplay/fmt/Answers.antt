use Rattle.std.proofs.Common.{sym}
use Rattle.std.proofs.Output.{has_written_of_eq}
use Rattle.base_ast.proofs.WrittenBytes.{encodes-printed}
use Rattle.base_ast.proofs.ast.printed.ExprDisplay.fmt.Goals as goal

pub returns-clause-writes : goal.returns-clause-writes
returns-clause-writes g c plain ok = has_written_of_eq _ _ _ _ _ (sym (encodes-printed c.args.self.now)) (c.fmt_printed.ensures plain ok)

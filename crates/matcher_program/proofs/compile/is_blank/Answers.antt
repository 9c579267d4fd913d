use Rattle.std.proofs.Common.{sym, ◌∙◌}
use Rattle.matcher_program.proofs.Compiling.{blank_then, blank_else}
use Rattle.matcher_program.proofs.compile.is_blank.Goals as goal

pub returns-then-same : goal.returns-then-same
returns-then-same c = blank_then _ (rw c.whitespace_name.ensures.named at (sym c.same.ensures ∙ c.if-same.true))

pub returns-else-same : goal.returns-else-same
returns-else-same c = blank_else _ _ (rw c.whitespace_name.ensures.named at (sym c.same.ensures ∙ c.if-same.false)) (rw c.comment_name.ensures.named at c.same-else-same.ensures)

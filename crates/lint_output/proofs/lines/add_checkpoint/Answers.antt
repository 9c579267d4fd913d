use Rattle.lint_output.proofs.Locating.{no_checkpoint, one_checkpoint}
use Rattle.lint_output.proofs.lines.add_checkpoint.Goals as goal

pub returns-then-at-ne0 : goal.returns-then-at-ne0
returns-then-at-ne0 c = λ text here so_far. no_checkpoint text c.args.at _ c.if-at-ne0.true so_far

pub returns : goal.returns
returns c = λ text here so_far. one_checkpoint text c.args.at c.args.location _ _ c.if-at-ne0.false c.in_ok-push.ensures.items here so_far

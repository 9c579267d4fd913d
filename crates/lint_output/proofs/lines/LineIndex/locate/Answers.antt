use Rattle.std.proofs.Common.{◌∙◌, arith}
use Rattle.lint_output.proofs.Locating.{checkpoint_of, located}
use Rattle.lint_output.proofs.lines.LineIndex.locate.Goals as goal

pub loop-at-init : goal.loop-at-init
loop-at-init c = λ indexed. c.checkpoint-location.ensures ∙ checkpoint_of _ _ c.min-last.result _ indexed (omega (arith, c.min-last.ensures))

pub returns : goal.returns
returns c = located c.args.text.now _ c.args.self.now _ c.args.position c.min-last.result c.loop-at.at c.as_bytes-bytes.ensures.value c.min-last.ensures (omega arith) c.loop-at.invariant

use Rattle.std.proofs.Common.{◌∙◌, arith, sym}
use Rattle.server_symbols.proofs.Runs.{block_closes, block_goes, block_over}
use Rattle.server_symbols.proofs.scanning.block_comment_end.Goals as goal

pub returns-then-is_outer_end-clause-end : goal.returns-then-is_outer_end-clause-end
returns-then-is_outer_end-clause-end c =
    omega (arith, c.loop-end.invariant.1, block_closes c.loop-end.inner c.loop-end.last c.args.text.now c.loop-end.end (omega arith) (sym c.is_outer_end.ensures ∙ c.if-is_outer_end.true))

pub loop-end-preserved : goal.loop-end-preserved
loop-end-preserved c = (
  omega (arith, c.inner_after-inner.ensures.bound),
  omega (arith, c.loop-end.invariant.1, block_goes c.loop-end.inner c.inner_after-inner.result c.loop-end.last c.last_after-last.result c.args.text.now c.loop-end.end (omega arith) (sym c.is_outer_end.ensures ∙ c.if-is_outer_end.false) c.inner_after-inner.ensures.value c.last_after-last.ensures),
)

pub returns-clause-end : goal.returns-clause-end
returns-clause-end c = omega (arith, c.loop-end.invariant.1, block_over c.loop-end.inner c.loop-end.last c.args.text.now c.loop-end.end (omega arith))

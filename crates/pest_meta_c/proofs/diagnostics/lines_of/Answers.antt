use Rattle.std.proofs.Common.{◌∙◌, ◌++◌, ap, string_bytes}
use Rattle.pest_meta_c.proofs.Lining.{begins, ends, one_more}
use Rattle.pest_meta_c.proofs.diagnostics.lines_of.Goals as goal

pub loop-diagnostic-init : goal.loop-diagnostic-init
loop-diagnostic-init c = begins c.args.diagnostics.now _ c.new-lines.ensures.bytes

pub loop-diagnostic-preserved : goal.loop-diagnostic-preserved
loop-diagnostic-preserved c =
    one_more c.args.diagnostics.now c.loop-diagnostic.diagnostic-index c.diagnostic-item.result (string_bytes c.loop-diagnostic.lines) (string_bytes c.in_ok-line.line) _ c.diagnostic-item.is c.loop-diagnostic-test.true c.in_ok-line.ensures.shape
    (c.in_ok-push_str.ensures.bytes ∙ ap (λ t. string_bytes c.loop-diagnostic.lines ++ t) c.as_str.ensures.value)
    c.loop-diagnostic.invariant

pub returns : goal.returns
returns c = ends c.args.diagnostics.now c.loop-diagnostic.diagnostic-index (string_bytes c.loop-diagnostic.lines) c.loop-diagnostic-test.false c.loop-diagnostic.invariant

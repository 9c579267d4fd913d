use Rattle.std.proofs.Common.{string_bytes}
use Rattle.lint_output.proofs.Placing.{placed_block, shaped_block}
use Rattle.lint_output.proofs.text.to_text.Goals as goal

pub returns-clause-shape : goal.returns-clause-shape
returns-clause-shape c =
    shaped_block c.block_of.result (λ x. string_bytes x) c.args.has_colour c.args.origin.name.now c.args.diagnostic.now c.locate-first.result c.as_str-rest.result.now c.block_of.ensures

pub returns-clause-places : goal.returns-clause-places
returns-clause-places c =
    placed_block c.block_of.result (λ x. string_bytes x) _ c.args.has_colour c.args.origin.name.now c.args.diagnostic.now c.locate-first.result _ c.as_str-rest.result.now c.block_of.ensures c.locate-first.ensures

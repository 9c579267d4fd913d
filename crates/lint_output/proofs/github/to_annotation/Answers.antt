use Rattle.std.proofs.Common.{◌≡◌, string_bytes}
use Rattle.lint_output.specs.Annotations.{located_command}
use Rattle.lint_output.proofs.Placing.{placed_twice, shaped_command}
use Rattle.lint_output.proofs.github.to_annotation.Goals as goal

pub returns-clause-shape : goal.returns-clause-shape
returns-clause-shape c =
    shaped_command c.command_of.result (λ x. string_bytes x) c.args.origin.name.now c.args.diagnostic.now c.locate-first.result c.locate-last.result c.command_of.ensures

pub returns-clause-text : goal.returns-clause-text
returns-clause-text c =
    placed_twice c.command_of.result _ (λ first last text. string_bytes text ≡ located_command c.args.origin.name.now c.args.diagnostic.now first last) c.locate-first.result c.locate-last.result _ _
    c.command_of.ensures c.locate-first.ensures c.locate-last.ensures

use Rattle.std.proofs.Common.{◌∙◌}
use Rattle.std.proofs.lemmas.Result.{IfOk-weaker}
use Rattle.program_support.proofs.Adding.{one_argument_more}
use Rattle.pest_test.proofs.arguments.command.Goals as goal

pub returns-clause-name : goal.returns-clause-name
returns-clause-name c =
    IfOk-weaker c.add_argument-9.result _ _
    (λ command same. same ∙ c.in_ok-command-9.ensures.name ∙ c.in_ok-command-8.ensures.name ∙ c.in_ok-command-7.ensures.name ∙ c.in_ok-command-6.ensures.name ∙ c.in_ok-command-5.ensures.name ∙ c.in_ok-command-4.ensures.name ∙ c.in_ok-command-3.ensures.name ∙ c.in_ok-command-2.ensures.name ∙ c.in_ok-command.ensures.name)
    c.add_argument-9.ensures.name

pub returns-clause-arguments : goal.returns-clause-arguments
returns-clause-arguments c =
    let one = one_argument_more _ _ _ _ c.in_ok-command.ensures.arguments (c.in_ok-command-2.ensures.arguments _ c.grammar_argument.ensures) in
    let two = one_argument_more _ _ _ _ one (c.in_ok-command-3.ensures.arguments _ c.rule_argument.ensures) in
    let three = one_argument_more _ _ _ _ two (c.in_ok-command-4.ensures.arguments _ c.optimized_argument.ensures) in
    let four = one_argument_more _ _ _ _ three (c.in_ok-command-5.ensures.arguments _ c.update_argument.ensures) in
    let five = one_argument_more _ _ _ _ four (c.in_ok-command-6.ensures.arguments _ c.in_ok-list_argument.ensures) in
    let six = one_argument_more _ _ _ _ five (c.in_ok-command-7.ensures.arguments _ c.filter_argument.ensures) in
    let seven = one_argument_more _ _ _ _ six (c.in_ok-command-8.ensures.arguments _ c.format_argument.ensures) in
    let eight = one_argument_more _ _ _ _ seven (c.in_ok-command-9.ensures.arguments _ c.colour_argument.ensures) in
    IfOk-weaker c.add_argument-9.result _ _
    (λ command adds. one_argument_more _ _ _ _ eight adds)
    (c.add_argument-9.ensures.arguments _ c.paths_argument.ensures)

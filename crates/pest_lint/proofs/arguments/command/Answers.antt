use Rattle.std.proofs.Common.{◌∙◌}
use Rattle.std.proofs.lemmas.Result.{IfOk-weaker}
use Rattle.program_support.proofs.Adding.{one_argument_more}
use Rattle.pest_lint.proofs.arguments.command.Goals as goal

pub returns-clause-name : goal.returns-clause-name
returns-clause-name c =
    IfOk-weaker c.add_argument-13.result _ _
    (λ command same. same ∙ c.in_ok-command-13.ensures.name ∙ c.in_ok-command-12.ensures.name ∙ c.in_ok-command-11.ensures.name ∙ c.in_ok-command-10.ensures.name ∙ c.in_ok-command-9.ensures.name ∙ c.in_ok-command-8.ensures.name ∙ c.in_ok-command-7.ensures.name ∙ c.in_ok-command-6.ensures.name ∙ c.in_ok-command-5.ensures.name ∙ c.in_ok-command-4.ensures.name ∙ c.in_ok-command-3.ensures.name ∙ c.in_ok-command-2.ensures.name ∙ c.in_ok-command.ensures.name)
    c.add_argument-13.ensures.name

pub returns-clause-arguments : goal.returns-clause-arguments
returns-clause-arguments c =
    let one = one_argument_more _ _ _ _ c.in_ok-command.ensures.arguments (c.in_ok-command-2.ensures.arguments _ c.format_argument.ensures) in
    let two = one_argument_more _ _ _ _ one (c.in_ok-command-3.ensures.arguments _ c.colour_argument.ensures) in
    let three = one_argument_more _ _ _ _ two (c.in_ok-command-4.ensures.arguments _ c.deny_argument.ensures) in
    let four = one_argument_more _ _ _ _ three (c.in_ok-command-5.ensures.arguments _ c.warn_argument.ensures) in
    let five = one_argument_more _ _ _ _ four (c.in_ok-command-6.ensures.arguments _ c.allow_code_argument.ensures) in
    let six = one_argument_more _ _ _ _ five (c.in_ok-command-7.ensures.arguments _ c.deny_code_argument.ensures) in
    let seven = one_argument_more _ _ _ _ six (c.in_ok-command-8.ensures.arguments _ c.fix_argument.ensures) in
    let eight = one_argument_more _ _ _ _ seven (c.in_ok-command-9.ensures.arguments _ c.unsafe_argument.ensures) in
    let nine = one_argument_more _ _ _ _ eight (c.in_ok-command-10.ensures.arguments _ c.diff_argument.ensures) in
    let ten = one_argument_more _ _ _ _ nine (c.in_ok-command-11.ensures.arguments _ c.start_argument.ensures) in
    let eleven = one_argument_more _ _ _ _ ten (c.in_ok-command-12.ensures.arguments _ c.explain_argument.ensures) in
    let twelve = one_argument_more _ _ _ _ eleven (c.in_ok-command-13.ensures.arguments _ c.list_argument.ensures) in
    IfOk-weaker c.add_argument-13.result _ _
    (λ command adds. one_argument_more _ _ _ _ twelve adds)
    (c.add_argument-13.ensures.arguments _ c.file_argument.ensures)

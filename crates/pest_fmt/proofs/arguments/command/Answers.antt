use Rattle.std.proofs.lemmas.Result.{IfOk-weaker}
use Rattle.program_support.proofs.Adding.{one_argument_more}
use Rattle.pest_fmt.proofs.arguments.command.Goals as goal

pub returns-clause-arguments : goal.returns-clause-arguments
returns-clause-arguments c =
    let one = one_argument_more _ _ _ _ c.in_ok-command.ensures.arguments (c.in_ok-command-2.ensures.arguments _ c.check_argument.ensures) in
    let two = one_argument_more _ _ _ _ one (c.in_ok-command-3.ensures.arguments _ c.in_ok-stdout_argument.ensures) in
    let three = one_argument_more _ _ _ _ two (c.in_ok-command-4.ensures.arguments _ c.line_ends_argument.ensures) in
    IfOk-weaker c.add_argument-4.result _ _
    (λ command adds. one_argument_more _ _ _ _ three adds)
    (c.add_argument-4.ensures.arguments _ c.files_argument.ensures)

use Rattle.std.proofs.lemmas.Result.{IfOk-weaker}
use Rattle.program_support.proofs.Adding.{one_argument_more}
use Rattle.pest_language_server.proofs.arguments.command.Goals as goal

pub returns-clause-arguments : goal.returns-clause-arguments
returns-clause-arguments c =
    IfOk-weaker c.add_argument.result _ _
    (λ command adds. one_argument_more _ _ _ _ c.in_ok-command.ensures.arguments adds)
    (c.add_argument.ensures.arguments _ c.stdio_argument.ensures)

use Rattle.std.proofs.lemmas.Result.{IfOk-weaker}
use Rattle.program_support.proofs.Adding.{one_argument_more}
use Rattle.pest_doc.proofs.arguments.command.Goals as goal

pub returns-clause-arguments : goal.returns-clause-arguments
returns-clause-arguments c =
    let one = one_argument_more _ _ _ _ c.in_ok-command.ensures.arguments (c.in_ok-command-2.ensures.arguments _ c.format_argument.ensures) in
    let two = one_argument_more _ _ _ _ one (c.in_ok-command-3.ensures.arguments _ c.rule_argument.ensures) in
    let three = one_argument_more _ _ _ _ two (c.in_ok-command-4.ensures.arguments _ c.out_argument.ensures) in
    IfOk-weaker c.add_argument-4.result _ _
    (λ command adds. one_argument_more _ _ _ _ three adds)
    (c.add_argument-4.ensures.arguments _ c.grammar_argument.ensures)

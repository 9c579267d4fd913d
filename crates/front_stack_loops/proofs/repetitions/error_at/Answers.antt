use Rattle.std.proofs.Common.{◌≡◌, ◌∙◌, ap, arith, rules, string_bytes}
use Rattle.std.proofs.lemmas.Grind.{common_steps}
use Rattle.front_names.specs.Messages.{non_progressing, repeated_expression}
use Rattle.front_stack_loops.proofs.repetitions.error_at.Goals as goal

pub returns-clause-tells : goal.returns-clause-tells
returns-clause-tells c =
    let says : string_bytes c.in_ok-message.message ≡ non_progressing repeated_expression
    = c.in_ok-message.ensures ∙ ap non_progressing c.repeated_expression.ensures in
    first_of (search (rules, says), grind (arith, common_steps, says))

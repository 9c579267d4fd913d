use Rattle.std.proofs.Common.{◌≡◌, ◌∙◌, ◌++◌, ap, string_bytes}
use Rattle.std.proofs.lemmas.Result.{IfOk-weaker}
use Rattle.std.specs.Fmt.{decimal}
use Rattle.std.specs.Prelude.{codes}
use Rattle.pest_run.proofs.messages.steps_note.Goals as goal

pub returns : goal.returns
returns c =
    IfOk-weaker c.format.result _ _
    (λ words written. written ∙ ap (λ more. codes " was not found in " ++ (decimal c.args.steps ++ (codes " steps; --steps " ++ (decimal more ++ codes " allows more")))) c.more_steps-more.ensures)
    c.format.ensures.ok

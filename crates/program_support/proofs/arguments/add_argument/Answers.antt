use Rattle.std.proofs.Common.{◌∷◌, ◌++◌, ◌∙◌, [], ap, map}
use Rattle.std.proofs.lemmas.List.{map-append}
use Rattle.std.proofs.lemmas.Result.{IfOk-weaker}
use Rattle.clap.specs.Simple.{App, app_of}
use Rattle.clap.specs.Walk.{rule_of}
use Rattle.program_support.specs.Arguments.{arguments_of, form_of_rule}
use Rattle.program_support.proofs.arguments.add_argument.Goals as goal

pub returns-clause-arguments : goal.returns-clause-arguments
returns-clause-arguments c form has =
    IfOk-weaker c.arg.result _ _
    (λ new adds.
    (ap (λ (app : App). map form_of_rule app.top.rules) (adds.shape has.1)
    ∙ map-append form_of_rule (app_of c.args.command).top.rules (rule_of c.args.argument ∷ []))
    ∙ ap (λ f. arguments_of c.args.command ++ f ∷ []) has.0)
    c.arg.ensures

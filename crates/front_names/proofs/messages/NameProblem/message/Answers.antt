use Rattle.std.proofs.Common.{◌∙◌, ◌++◌, ap₂, sym}
use Rattle.std.proofs.lemmas.List.{append_assoc}
use Rattle.std.proofs.lemmas.Result.{IfOk-weaker}
use Rattle.front_names.specs.Messages.{prefix, suffix}
use Rattle.front_names.proofs.messages.NameProblem.message.Goals as goal

pub returns : goal.returns
returns c =
    let subject = c.args.name.now in
    IfOk-weaker c.format.result _ _
    (λ m h. h ∙ ap₂ (λ p s. p ++ (subject ++ s)) c.prefix-prefix.ensures c.suffix-suffix.ensures
    ∙ sym (append_assoc (prefix c.args.self) subject (suffix c.args.self)))
    c.format.ensures.ok

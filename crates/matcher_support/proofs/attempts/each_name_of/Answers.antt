use Rattle.std.proofs.Common.{◌∙◌, [], ap}
use Rattle.std.proofs.lemmas.Result.{IfOk-weaker}
use Rattle.matcher_code.specs.Steps.{insert_rules}
use Rattle.matcher_engine.proofs.RuleNumbers.{have_once, rules_once}
use Rattle.matcher_program.specs.ExpectedNames.{each_once}
use Rattle.matcher_support.proofs.attempts.each_name_of.Goals as goal

pub returns : goal.returns
returns c =
    IfOk-weaker c.names_of.result _ _
    (λ found told g named ns e have.
    (let rules = c.deref.ensures.value ∙ (c.in_ok-once.ensures ∙ (ap (λ rs. insert_rules [] rs) e ∙ rules_once g ns have)) in
    told g named (each_once ns) rules (have_once g ns have)))
    c.names_of.ensures

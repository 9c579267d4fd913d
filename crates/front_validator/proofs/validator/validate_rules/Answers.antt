use Rattle.std.proofs.Common.{◌≡◌, ◌∙◌, [], IfOk, map, subst}
use Rattle.base_language.specs.Language.WellFormed.{IsWellFormed}
use Rattle.front_spanned.specs.Nodes.{piece_of, rule_views}
use Rattle.front_analysis.specs.Names.{grammar_of}
use Rattle.front_validator.specs.Reported.{AreReported}
use Rattle.front_validator.proofs.validator.validate_rules.Goals as goal

pub returns-clause-exact : goal.returns-clause-exact
returns-clause-exact c =
    subst (λ z. IfOk c.validate_by.result (λ errors. AreReported (rule_views z) (map piece_of c.args.endless.now) errors.items))
    (c.in_ok-groundwork.ensures.rules ∙ c.as_slice.ensures.value) c.validate_by.ensures.exact

pub returns-clause-accepted : goal.returns-clause-accepted
returns-clause-accepted c =
    subst (λ z. IfOk c.validate_by.result (λ errors. errors.items ≡ [] → IsWellFormed (grammar_of z)))
    (c.in_ok-groundwork.ensures.rules ∙ c.as_slice.ensures.value) c.validate_by.ensures.accepted

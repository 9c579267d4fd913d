use Rattle.std.proofs.Common.{◌≡◌, ◌∙◌, [], IfOk, map, subst, sym}
use Rattle.base_language.specs.Language.WellFormed.{IsWellFormed}
use Rattle.front_spanned.specs.Nodes.{piece_of, rule_views}
use Rattle.front_analysis.specs.Names.{grammar_of}
use Rattle.front_validator.specs.Placed.{AreIn}
use Rattle.front_validator.specs.Reported.{AreReported}
use Rattle.front_validator.proofs.validator.validate_rules_in.Goals as goal

pub returns-clause-exact : goal.returns-clause-exact
returns-clause-exact c =
    subst (λ z. IfOk c.validate_by_in.result (λ errors. AreReported (rule_views z) (map piece_of c.args.endless.now) errors.items))
    (c.in_ok-groundwork.ensures.rules ∙ c.as_slice.ensures.value) c.validate_by_in.ensures.exact

pub returns-clause-accepted : goal.returns-clause-accepted
returns-clause-accepted c =
    subst (λ z. IfOk c.validate_by_in.result (λ errors. errors.items ≡ [] → IsWellFormed (grammar_of z)))
    (c.in_ok-groundwork.ensures.rules ∙ c.as_slice.ensures.value) c.validate_by_in.ensures.accepted

pub validate_by_in-requires-clause-rules_in_text : goal.validate_by_in-requires-clause-rules_in_text
validate_by_in-requires-clause-rules_in_text c =
    subst (λ z. AreIn c.args.text.now (rule_views z))
    (sym (c.in_ok-groundwork.ensures.rules ∙ c.as_slice.ensures.value)) c.requires.rules_in_text

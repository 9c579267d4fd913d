use Rattle.std.proofs.Common.{◌≡◌, ◌∙◌, [], IfOk, map, subst, sym}
use Rattle.std.proofs.lemmas.Result.{IfOk-weaker}
use Rattle.base_language.specs.Language.WellFormed.{IsWellFormed}
use Rattle.front_spanned.specs.Nodes.{piece_of, rule_views}
use Rattle.front_analysis.specs.Names.{grammar_of}
use Rattle.front_stack_loops.specs.Certain.{AreReports}
use Rattle.front_validator.specs.Reported.{AreReported}
use Rattle.front_validator.proofs.NothingElse.{none_endless}
use Rattle.front_validator.specs.Placed.{AreIn, ArePiecesOf}
use Rattle.pest_meta.proofs.InText.{reports_in}
use Rattle.pest_meta.specs.Findings.{AreErrorsOfFindings}
use Rattle.pest_meta.proofs.validator.validate_ast_in.Goals as goal

pub returns-clause-exact : goal.returns-clause-exact
returns-clause-exact c =
    let endless = map piece_of c.in_ok-endless.endless.items in
    IfOk-weaker c.validate_by_in.result _ _ (λ errors told. record {
      endless = endless;
      reports = subst (λ z. AreReports (rule_views z) endless) (c.in_ok-groundwork.ensures.rules ∙ c.as_slice.ensures.value) c.in_ok-endless.ensures.exact;
      tell = subst (λ z. AreReported (rule_views z) endless errors.items) (c.in_ok-groundwork.ensures.rules ∙ c.as_slice.ensures.value)
          (subst (λ z. AreReported (rule_views c.in_ok-groundwork.groundwork.grammar.rules.now) (map piece_of z) errors.items) c.as_slice-2.ensures.value told);
    }) c.validate_by_in.ensures.exact

pub returns-clause-accepted : goal.returns-clause-accepted
returns-clause-accepted c =
    subst (λ z. IfOk c.validate_by_in.result (λ errors. errors.items ≡ [] → IsWellFormed (grammar_of z))) (c.in_ok-groundwork.ensures.rules ∙ c.as_slice.ensures.value) c.validate_by_in.ensures.accepted

pub returns-clause-silent : goal.returns-clause-silent
returns-clause-silent c =
    let views = rule_views c.args.rules.now.items in
    IfOk-weaker c.validate_by_in.result (λ errors. AreErrorsOfFindings views errors.items) _ (λ errors told none.
    subst (AreReports views) (none_endless views told.endless (subst (AreReported views told.endless) none told.tell)) told.reports
    ) (returns-clause-exact c)

pub validate_by_in-requires-clause-endless_in_text : goal.validate_by_in-requires-clause-endless_in_text
validate_by_in-requires-clause-endless_in_text c =
    let told = subst (λ z. AreReports (rule_views z) (map piece_of c.in_ok-endless.endless.items)) (c.in_ok-groundwork.ensures.rules ∙ c.as_slice.ensures.value) c.in_ok-endless.ensures.exact in
    subst (λ z. ArePiecesOf c.args.text.now (map piece_of z)) (sym c.as_slice-2.ensures.value) (reports_in c.args.text.now (rule_views c.args.rules.now.items) c.requires.in_text (map piece_of c.in_ok-endless.endless.items) told)

pub validate_by_in-requires-clause-rules_in_text : goal.validate_by_in-requires-clause-rules_in_text
validate_by_in-requires-clause-rules_in_text c = subst (λ z. AreIn c.args.text.now (rule_views z)) (sym (c.in_ok-groundwork.ensures.rules ∙ c.as_slice.ensures.value)) c.requires.in_text

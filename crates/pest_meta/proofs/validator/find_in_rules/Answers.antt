use Rattle.std.proofs.Common.{◌≡◌, ◌∙◌, [], IfOk, map, subst}
use Rattle.std.proofs.lemmas.Result.{IfOk-weaker}
use Rattle.base_language.specs.Language.WellFormed.{IsWellFormed}
use Rattle.front_spanned.specs.Nodes.{piece_of, rule_views}
use Rattle.front_analysis.specs.Names.{grammar_of}
use Rattle.front_stack_loops.specs.Certain.{AreReports}
use Rattle.front_validator.specs.Findings.{AreAllFound}
use Rattle.front_validator.specs.Reporting.{findings_of}
use Rattle.pest_meta.proofs.validator.find_in_rules.Goals as goal

pub returns-clause-found : goal.returns-clause-found
returns-clause-found c =
    let endless = map piece_of c.in_ok-endless.endless.items in
    let same = c.in_ok-groundwork.ensures.rules ∙ c.as_slice.ensures.value in
    IfOk-weaker c.findings_in.result _ _ (λ found all. record {
      endless = endless;
      reports = subst (λ z. AreReports (rule_views z) endless) same c.in_ok-endless.ensures.exact;
      complete = subst (λ z. AreAllFound (rule_views z) endless (findings_of found.items)) same
          (subst (λ z. AreAllFound (rule_views c.in_ok-groundwork.groundwork.grammar.rules.now) (map piece_of z) (findings_of found.items)) c.as_slice-2.ensures.value all);
    }) c.findings_in.ensures.found

pub returns-clause-accepted : goal.returns-clause-accepted
returns-clause-accepted c =
    subst (λ z. IfOk c.findings_in.result (λ found. findings_of found.items ≡ [] → IsWellFormed (grammar_of z))) (c.in_ok-groundwork.ensures.rules ∙ c.as_slice.ensures.value) c.findings_in.ensures.accepted

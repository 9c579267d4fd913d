use Rattle.std.proofs.Common.{map, subst, sym}
use Rattle.std.proofs.lemmas.Result.{IfOk-weaker}
use Rattle.front_spanned.specs.Nodes.{piece_of, rule_views}
use Rattle.front_validator.specs.Reporting.{findings_of}
use Rattle.base_language.specs.Pieces.Saying.{AreErrorsFor}
use Rattle.std.specs.List.{All}
use Rattle.front_validator.proofs.PlacedLemmas.{InText, all_found_in}
use Rattle.front_validator.proofs.SortedLemmas.{told_empty}
use Rattle.front_validator.proofs.validator.validate_by_in.Goals as goal

pub returns-clause-exact : goal.returns-clause-exact
returns-clause-exact c =
    IfOk-weaker c.errors_in.result _ _ (λ errors told. record {
      findings = findings_of c.in_ok-found.found.items;
      complete = c.in_ok-found.ensures.found;
      told = subst (λ z. AreErrorsFor (findings_of z) errors.items) c.as_slice.ensures.value told;
    }) c.errors_in.ensures.told

pub returns-clause-accepted : goal.returns-clause-accepted
returns-clause-accepted c =
    IfOk-weaker c.errors_in.result _ _ (λ errors told none.
    let here = subst (λ z. AreErrorsFor (findings_of z) errors.items) c.as_slice.ensures.value told in
    c.in_ok-found.ensures.accepted (told_empty (findings_of c.in_ok-found.found.items) errors.items here none)
    ) c.errors_in.ensures.told

pub errors_in-requires : goal.errors_in-requires
errors_in-requires c =
    let found = c.in_ok-found.found.items in
    let views = rule_views c.args.groundwork.now.grammar.rules.now in
    let all = c.in_ok-found.ensures.found in
    let here = all_found_in c.args.text.now views c.requires.rules_in_text (map piece_of c.args.endless.now) (findings_of found) c.requires.endless_in_text all in
    record { in_text = subst (λ z. All (InText c.args.text.now) (findings_of z)) (sym c.as_slice.ensures.value) here }

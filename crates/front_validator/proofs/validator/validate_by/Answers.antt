use Rattle.std.proofs.Common.{subst}
use Rattle.std.proofs.lemmas.Result.{IfOk-weaker}
use Rattle.front_validator.specs.Reporting.{findings_of}
use Rattle.base_language.specs.Pieces.Saying.{AreErrorsFor}
use Rattle.front_validator.proofs.SortedLemmas.{told_empty}
use Rattle.front_validator.proofs.validator.validate_by.Goals as goal

pub returns-clause-exact : goal.returns-clause-exact
returns-clause-exact c =
    IfOk-weaker c.errors_of.result _ _ (λ errors told. record {
      findings = findings_of c.in_ok-found.found.items;
      complete = c.in_ok-found.ensures.found;
      told = subst (λ z. AreErrorsFor (findings_of z) errors.items) c.as_slice.ensures.value told;
    }) c.errors_of.ensures.told

pub returns-clause-accepted : goal.returns-clause-accepted
returns-clause-accepted c =
    IfOk-weaker c.errors_of.result _ _ (λ errors told none.
    let here = subst (λ z. AreErrorsFor (findings_of z) errors.items) c.as_slice.ensures.value told in
    c.in_ok-found.ensures.accepted (told_empty (findings_of c.in_ok-found.found.items) errors.items here none)
    ) c.errors_of.ensures.told

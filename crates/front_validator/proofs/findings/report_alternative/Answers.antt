use Rattle.std.proofs.Common.{◌∙◌, ◌≤◌, sym, ap, ◌++◌, length, arith}
use Rattle.std.proofs.lemmas.List.{append-nil}
use Rattle.std.proofs.lemmas.Option.{slice_get_past}
use Rattle.front_validator.specs.Reporting.{findings_of, alternative_at}
use Rattle.front_validator.proofs.findings.report_alternative.Goals as goal

pub returns-else-alternative-spans : goal.returns-else-alternative-spans
returns-else-alternative-spans c =
    let a = c.args.alternative in
    let h : length c.args.spans.now ≤ a = omega arith in
    let found = findings_of c.args.found.now.items in
    sym (ap (λ o. found ++ alternative_at c.args.facts.now a o) (slice_get_past c.args.spans.now a h) ∙ append-nil found)

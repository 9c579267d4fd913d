use Rattle.front_validator.specs.Reporting.{findings_of}
use Rattle.front_validator.proofs.SortedLemmas.{none_found}
use Rattle.front_validator.proofs.reported.findings_in.Goals as goal

pub returns-clause-found : goal.returns-clause-found
returns-clause-found c = (findings_of c.in_ok-found.found.items, c.in_ok-found.ensures.found, c.in_ok-sort_by_span.ensures)

pub returns-clause-accepted : goal.returns-clause-accepted
returns-clause-accepted c = λ e.
    c.in_ok-found.ensures.accepted (none_found (findings_of c.in_ok-found.found.items) (findings_of c.sort_by_span.new.found.items) c.in_ok-sort_by_span.ensures e)

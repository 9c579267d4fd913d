use Rattle.std.proofs.Common.{sym, subst}
use Rattle.front_spanned.specs.Nodes.{rule_views}
use Rattle.front_validator.specs.Findings.{OfRecursion, Reports, places}
use Rattle.front_validator.specs.Reporting.{findings_of}
use Rattle.front_validator.proofs.ClosingLemmas.{none_leads}
use Rattle.front_validator.proofs.RecursionLemmas.{none_found, some_found}
use Rattle.front_validator.proofs.recursions.recursions.Goals as goal

pub returns-then-falls-clause-exact : goal.returns-then-falls-clause-exact
returns-then-falls-clause-exact c =
    let V = rule_views c.args.rules.now in
    subst (λ z. Reports (OfRecursion V) (places V) (findings_of z)) (sym c.new.ensures.items) (none_found c.args.rules.now (c.in_ok-falls.ensures c.if-falls.true c.args.rules.now c.requires.facts))

pub returns-clause-none : goal.returns-clause-none
returns-clause-none c = λ e n l. none_leads c.args.rules.now c.args.facts.now.table.roots.items (c.in_ok-found.ensures.none e) n l

pub returns-clause-some : goal.returns-clause-some
returns-clause-some c = some_found c.args.rules.now c.in_ok-found.ensures.exact

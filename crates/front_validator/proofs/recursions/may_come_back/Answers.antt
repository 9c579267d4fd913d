use Rattle.std.proofs.Common.{◌≡◌, false, true, sym, subst, rules}
use Rattle.front_spanned.specs.Nodes.{rule_views}
use Rattle.front_validator.specs.Findings.{hidden, not_recursive}
use Rattle.front_validator.specs.LeftRecursion.{Means}
use Rattle.front_analysis.specs.Names.{grammar_of}
use Rattle.front_validator.proofs.ClosingLemmas.{none_comes}
use Rattle.front_validator.proofs.Falling.{no_cycle_from}
use Rattle.front_validator.proofs.NoneWalks.{in_rules}
use Rattle.front_validator.proofs.RecursionLemmas.{view_at}
use Rattle.front_validator.proofs.Walk.{leads}
use Rattle.front_validator.proofs.recursions.may_come_back.Goals as goal

pub returns-then-not-is_last-clause-nothing : goal.returns-then-not-is_last-clause-nothing
returns-then-not-is_last-clause-nothing c = λ e.
    let off : c.is_last.result ≡ false = search rules in
    let (r, at) = view_at c.args.rules.now c.args.place c.requires.inside in
    hidden at (c.is_last.ensures.no off r at)

pub returns-then-not-is_last-clause-never : goal.returns-then-not-is_last-clause-never
returns-then-not-is_last-clause-never c = λ e n means l.
    let off : c.is_last.result ≡ false = search rules in
    let (r, at, named) = in_rules (rule_views c.args.rules.now) n c.args.place means in
    c.is_last.ensures.no off r at (subst (λ z. Means (rule_views c.args.rules.now) z c.args.place) (sym named) means)

pub returns-clause-nothing : goal.returns-clause-nothing
returns-clause-nothing c = λ e.
    let rs = c.args.rules.now in
    let place = c.args.place in
    let on : c.is_last.result ≡ true = search rules in
    let down : c.falls_from.result ≡ true = search rules in
    let (r, at) = view_at rs place c.requires.inside in
    let means = c.is_last.ensures.yes on r at in
    not_recursive at means (none_comes rs place r at means (λ l. no_cycle_from rs c.args.facts.now c.args.levels.now c.requires.facts c.requires.levels r.name place means (c.falls_from.ensures down) (leads (grammar_of rs) l)))

pub returns-clause-never : goal.returns-clause-never
returns-clause-never c = λ e n means l.
    let down : c.falls_from.result ≡ true = search rules in
    no_cycle_from c.args.rules.now c.args.facts.now c.args.levels.now c.requires.facts c.requires.levels n c.args.place means (c.falls_from.ensures down) (leads (grammar_of c.args.rules.now) l)

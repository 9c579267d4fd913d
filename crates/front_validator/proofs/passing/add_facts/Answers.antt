use Rattle.std.proofs.Common.{◌∙◌, ap}
use Rattle.base_graphs.specs.Least.{is_set_at}
use Rattle.front_validator.proofs.PassingLemmas.{marked_settled}
use Rattle.front_validator.proofs.PassingSteps.{passing_more}
use Rattle.front_validator.proofs.RegionLemmas.{body_node, rule_at}
use Rattle.front_validator.proofs.ReportingLemmas.{says_at}
use Rattle.front_validator.proofs.passing.add_facts.Goals as goal

pub returns : goal.returns
returns c = λ rs right below.
    let facts = c.args.facts.now in
    let m = c.args.rule in
    let root = c.args.root in
    let (rule, here) = rule_at rs facts.table.roots.items right.tabled.roots m root c.requires.root in
    let flags = c.in_ok-add_flags.ensures in
    passing_more rs facts.table.roots.items right.tabled.roots m root facts.nullable.items c.args.flags.now.items c.add_flags.new.to.items c.requires.root
    flags.kept (λ i a b. flags.copied i a b ∙ ap (λ z. is_set_at z i) c.as_slice.ensures.value) flags.long
    (λ r at means i x e. marked_settled rs facts right m r at means root
    (says_at rs facts right root r.body (body_node rs facts.table.roots.items right.tabled.roots m root r at c.requires.root).node) c.requires.takes i x e) rule here below

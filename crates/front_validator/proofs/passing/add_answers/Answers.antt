use Rattle.std.proofs.Common.{◌∙◌, ap}
use Rattle.base_graphs.specs.Least.{is_set_at}
use Rattle.front_validator.proofs.PassingLemmas.{marked_without}
use Rattle.front_validator.proofs.PassingSteps.{passing_more}
use Rattle.front_validator.proofs.RegionLemmas.{rule_at}
use Rattle.front_validator.proofs.passing.add_answers.Goals as goal

pub returns : goal.returns
returns c = λ rs right below.
    let facts = c.args.facts.now in
    let m = c.args.rule in
    let (rule, here) = rule_at rs facts.table.roots.items right.tabled.roots m c.args.root c.requires.root in
    let without_it = c.in_ok-answers.ensures in
    let flags = c.in_ok-add_flags.ensures in
    passing_more rs facts.table.roots.items right.tabled.roots m c.args.root c.in_ok-answers.answers.items c.args.flags.now.items c.add_flags.new.to.items c.requires.root
    flags.kept (λ i a b. flags.copied i a b ∙ ap (λ z. is_set_at z i) c.as_slice.ensures.value) flags.long
    (λ r at means i x e. marked_without rs facts right m r at means without_it.table without_it.without_it c.in_ok-answers.answers.items without_it.sound without_it.closed i x e) rule here below

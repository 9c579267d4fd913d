use Rattle.std.proofs.Common.{[], get_or, subst, sym, take}
use Rattle.std.proofs.lemmas.List.{take_all, take_more}
use Rattle.pest_lint.specs.Sources.AreOfNames.{none}
use Rattle.pest_lint.specs.Sources.{AreOfNames}
use Rattle.pest_lint.proofs.Gaining.{more_names}
use Rattle.pest_lint.proofs.sources.read_sources.Goals as goal

pub loop-name-init : goal.loop-name-init
loop-name-init c = subst (AreOfNames []) (sym c.new-sources.ensures.items) none

pub loop-name-preserved : goal.loop-name-preserved
loop-name-preserved c =
    let names = c.args.names.now in
    let i = c.loop-name.name-index in
    more_names (take i names) _ (get_or names i _) _ _ (take_more names i _ c.loop-name-test.true)
    c.loop-name.invariant c.in_ok-read_named.ensures

pub returns : goal.returns
returns c =
    subst (λ names. AreOfNames names c.loop-name.sources.items)
    (take_all c.loop-name.name-index c.args.names.now c.loop-name-test.false) c.loop-name.invariant

use Rattle.std.proofs.Common.{[], append-nil, get_or, subst, sym, take}
use Rattle.std.proofs.lemmas.List.{take_all, take_more}
use Rattle.pest_fmt.specs.Sources.AreOfNames.{none}
use Rattle.pest_fmt.specs.Sources.{AreOfNames, Gain}
use Rattle.pest_fmt.proofs.Gaining.{more_names}
use Rattle.pest_fmt.proofs.sources.find_files.Goals as goal

pub loop-name-init : goal.loop-name-init
loop-name-init c = ([], sym (append-nil _), none)

pub loop-name-preserved : goal.loop-name-preserved
loop-name-preserved c =
    let names = c.args.names.now in
    let i = c.loop-name.name-index in
    more_names (take i names) _ (get_or names i _) _ _ _ (take_more names i _ c.loop-name-test.true)
    c.loop-name.invariant c.in_ok-is_read.ensures

pub returns : goal.returns
returns c =
    subst (λ names. Gain (AreOfNames names) c.args.files.now.items c.loop-name.files.items)
    (take_all c.loop-name.name-index c.args.names.now c.loop-name-test.false) c.loop-name.invariant

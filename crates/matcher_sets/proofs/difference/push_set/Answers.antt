use Rattle.std.proofs.Common.{subst, sym, ◌≡◌, true}
use Rattle.std.specs.Prelude.{IfOk}
use Rattle.matcher_sets.specs.Differences.{AddsForm}
use Rattle.matcher_sets.specs.Forms.{IsBoundIn}
use Rattle.matcher_sets.proofs.difference.push_set.Goals as goal

pub push_property-requires : goal.push_property-requires
push_property-requires c = record { bound = subst (IsBoundIn c.args.program.now) c.in-Property.is c.requires.bound }

pub returns-in-Property : goal.returns-in-Property
returns-in-Property c =
    let p = c.args.program.now in
    subst (λ f. IfOk c.push_property.result (λ is. is ≡ true → AddsForm p f c.args.ranges.now.items c.push_property.new.ranges.items)) (sym c.in-Property.is) c.push_property.ensures

use Rattle.std.proofs.Common.{◌≡◌, ◌-◌, ◌<◌, [], append-nil, arith, length, map, refl}
use Rattle.std.proofs.lemmas.List.{length-map, nil_from_length}
use Rattle.serde_json.specs.View.{view}
use Rattle.server_features.proofs.Acting.{acts_more, no_room}
use Rattle.server_features.proofs.actions.actions_of.Goals as goal

pub returns-then-len-ge-MOST_ACTIONS : goal.returns-then-len-ge-MOST_ACTIONS
returns-then-len-ge-MOST_ACTIONS c =
    let full : 20 - length (map view c.loop-diagnostic.actions.items) ≡ 0 = rw length-map (omega arith) in
    rw append-nil at (c.loop-diagnostic.invariant [] (no_room c.args.context.now c.args.extent c.loop-diagnostic.rest.now _ full))

pub loop-diagnostic-preserved : goal.loop-diagnostic-preserved
loop-diagnostic-preserved c =
    let room : length (map view c.loop-diagnostic.actions.items) < 20 = rw length-map (omega arith) in
    acts_more c.args.context.now c.args.extent c.args.diagnostics.now c.in-Some.after.now c.loop-diagnostic.rest.now c.in-Some.diagnostic.now
    (map view c.loop-diagnostic.actions.items) (map view c.push_touched.new.actions.items) c.in-Some.ensures.cases.0 room c.in_ok-push_touched.ensures c.loop-diagnostic.invariant

pub returns : goal.returns
returns c =
    let none : c.loop-diagnostic.rest.now ≡ [] = nil_from_length c.loop-diagnostic.rest.now c.in_default.ensures.cases in
    rw append-nil at (c.loop-diagnostic.invariant [] (rw none refl))

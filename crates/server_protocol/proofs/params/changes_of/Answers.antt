use Rattle.std.proofs.Common.{[], ap, append-nil, map}
use Rattle.server_protocol.specs.Changes.{IsChangeIn}
use Rattle.server_protocol.proofs.Zips.{no_change, none_left, reads_more}
use Rattle.server_protocol.proofs.params.changes_of.Goals as goal
use Rattle.serde_json.specs.View.{view}

pub loop-value-preserved : goal.loop-value-preserved
loop-value-preserved c =
    reads_more _ (map view c.loop-value.rest.now) (map view c.in-Some.after.now) (view c.in-Some.value.now) c.loop-value.changes.items c.push.new.self.items c.in-Some-change_of.change (ap (map view) c.in-Some.ensures.cases.0) c.in_ok-push.ensures.items c.in-Some-change_of.ensures c.loop-value.invariant

pub returns-in_default-change_of : goal.returns-in_default-change_of
returns-in_default-change_of c =
    no_change _ (map view c.loop-value.rest.now) (map view c.in-Some.after.now) (view c.in-Some.value.now) c.loop-value.changes.items (ap (map view) c.in-Some.ensures.cases.0) c.in_default-change_of.ensures c.loop-value.invariant

pub returns : goal.returns
returns c = rw append-nil at (c.loop-value.invariant.1 [] (none_left IsChangeIn view c.loop-value.rest.now c.in_default.ensures.cases))

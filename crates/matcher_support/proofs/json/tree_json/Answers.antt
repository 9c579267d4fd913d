use Rattle.std.proofs.Common.{string_bytes}
use Rattle.matcher_support.proofs.JsonOfWalks.{all_json, all_written, one_more}
use Rattle.matcher_support.proofs.json.tree_json.Goals as goal

pub visits-preserved : goal.visits-preserved
visits-preserved c =
    let next = rw c.in-Some.is at c.in_ok-visit.ensures in
    one_more c.args.text.now _ (string_bytes c.visits.json) (string_bytes c.write_visit.new.json) c.visits.later c.is_left-later.result _ _ _ next c.visits.invariant c.in_ok-write_visit.ensures c.is_left-later.ensures

pub returns : goal.returns
returns c = λ rule trees e.
    let last = rw c.in_default.is at c.in_ok-visit.ensures in
    all_json c.args.text.now rule (string_bytes c.visits.json) (string_bytes c.push_str.new.self) c.args.end trees _ e
    (all_written c.args.text.now _ (string_bytes c.visits.json) c.visits.later _ last c.visits.invariant)
    c.in_ok-push_str.ensures.bytes

use Rattle.std.proofs.Common.{subst, string_bytes, get_or}
use Rattle.server_protocol.specs.TextChanges.{IsChanged}
use Rattle.server_protocol.proofs.Sequences.{change_more, no_change}
use Rattle.server_protocol.proofs.changes.apply_changes.Goals as goal

pub loop-change-preserved : goal.loop-change-preserved
loop-change-preserved c final h =
    let changes = c.args.changes.now in
    let i = c.loop-change.change-index in
    c.loop-change.invariant final (change_more c.args.encoding changes i _ _ final c.loop-change-test.true (subst (λ t. IsChanged c.args.encoding t (get_or changes i no_change) (string_bytes c.in_ok-changed-2.changed)) c.as_str.ensures.value c.in_ok-changed-2.ensures) h)

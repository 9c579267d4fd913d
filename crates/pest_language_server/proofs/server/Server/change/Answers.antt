use Rattle.std.proofs.Common.{◌∙◌, ap, string_bytes, subst, sym}
use Rattle.serde_json.specs.View.{view}
use Rattle.server_protocol.specs.TextChanges.{AreChanged}
use Rattle.pest_language_server.proofs.Announcing.{change_of, changed_as}
use Rattle.pest_language_server.proofs.server.Server.change.Goals as goal

pub returns-clause-sent : goal.returns-clause-sent
returns-clause-sent c =
    let before = c.in-Some-get.document.now in
    let after = c.in_ok-document.document in
    let encoding = c.args.self.now.client.encoding in
    let changes = c.in-Some.changes.items in
    let changed = changed_as encoding c.as_str.result.now (string_bytes before.text) c.deref.result.now changes (string_bytes c.in_ok-text.text) c.as_str.ensures.value c.deref.ensures.value c.in_ok-text.ensures in
    change_of c.args.uri.now _ _ (view c.args.params.now) before after changes _ (sym c.in-Some-get.ensures)
    (rw c.in-Some.is at c.in_ok-changes.ensures)
    (subst (λ t. AreChanged encoding (string_bytes before.text) changes (string_bytes t)) (sym c.in_ok-document.ensures.text) changed)
    (c.in_ok-document.ensures.version ∙ c.version_of.ensures) c.put.ensures.stored c.put.ensures.sent

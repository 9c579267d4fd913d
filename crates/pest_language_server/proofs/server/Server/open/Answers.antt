use Rattle.std.proofs.Common.{◌∙◌, Some, ap, string_bytes, sym}
use Rattle.serde_json.specs.View.{view}
use Rattle.pest_language_server.proofs.Announcing.{opening_of}
use Rattle.pest_language_server.proofs.server.Server.open.Goals as goal

pub returns-clause-sent : goal.returns-clause-sent
returns-clause-sent c =
    let document = c.in_ok-document.document in
    opening_of c.args.uri.now _ _ (view c.args.params.now) document _
    (sym c.in-Some.ensures ∙ ap Some (sym c.in_ok-text.ensures.ok ∙ ap string_bytes (sym c.in_ok-document.ensures.text)))
    (c.in_ok-document.ensures.version ∙ c.version_of.ensures) c.put.ensures.stored c.put.ensures.sent

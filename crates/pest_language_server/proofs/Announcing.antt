-- Notifications about documents, and the messages that they give rise to.
use Rattle.std.proofs.Common.{◌≡◌, List, ℕ, Option, Some, None, Result, Ok, Err, IfOk, IfSome, OnOk, String, codes, string_bytes, subst, sym}
use Rattle.std.specs.Option.{option_and_then}
use Rattle.std.specs.declared.alloc.AllocError.{AllocError}
use Rattle.std.specs.declared.alloc.Global.{Global}
use Rattle.server_protocol.specs.TextChanges.{AreChanged}
use Rattle.server_protocol.specs.declared.changes.Change.{Change}
use Rattle.server_protocol.specs.declared.positions.Encoding.{Encoding}
use Rattle.server_protocol.specs.Asked.{text_in}
use Rattle.server_protocol.specs.Changes.{AreChangesIn, version_in}
use Rattle.server_protocol.specs.Documents.{KeepsDocuments, document_in}
use Rattle.server_protocol.specs.declared.documents.Document.{Document}
use Rattle.server_protocol.specs.declared.documents.Documents.{Documents}
use Rattle.server_features.specs.Diagnoses.{accepted_in}
use Rattle.server_features.specs.Diagnostics.{Publishes}
use Rattle.pest_language_server.specs.Notices.{Announces, AnnouncesAt, AnnouncesChange, AnnouncesOpening, changed_at, changed_by, uri_in}
use Rattle.pest_language_server.specs.Serving.{TakesNotification}
use Rattle.pest_language_server.specs.declared.replies.Reply.{Reply}
use Rattle.pest_language_server.specs.declared.server.Notice.{Notice}
use Rattle.pest_language_server.specs.declared.server.Server.{Server}
use Rattle.serde_json.specs.Data.{Data}

-- the one document that changes is that of the parameters
pub keeps_at : (notice : Notice) (uri : List ℕ) (params : Data) (a b : Documents) → uri_in params ≡ Some uri → KeepsDocuments (changed_at notice uri) a b → KeepsDocuments (changed_by (Some notice) params) a b
keeps_at notice uri params a b q h = subst (λ (o : Option (List ℕ)). KeepsDocuments (option_and_then (changed_at notice) o) a b) (sym q) h

-- a text is changed by changes
pub changed_as : (e : Encoding) (t u : List ℕ) (xs ys : List Change) (s : List ℕ) → t ≡ u → xs ≡ ys → AreChanged e t xs s → AreChanged e u ys s
changed_as e t u xs ys s p q h = subst (λ (z : List ℕ). AreChanged e z ys s) p (subst (λ (zs : List Change). AreChanged e t zs s) q h)

-- a document that is put there with the text of the parameters is opened
pub opening_of : (uri : List ℕ) (old new : Server) (params : Data) (document : Document) (r : Result (Option (String Global)) AllocError) → text_in (codes "/textDocument/text") params ≡ Some (string_bytes document.text) → document.version ≡ version_in params → OnOk r (document_in new.documents uri ≡ Some document) → IfOk r (λ sent. IfSome sent (λ body. Publishes old.client (accepted_in old.diagnoses uri) uri document (string_bytes body))) → IfOk r (λ sent. IfSome sent (λ body. AnnouncesOpening uri old new params (string_bytes body)))
opening_of uri old new params document (Ok (Some body)) t v q h = record { document = document; is_open = q; text = t; version = v; published = h }
opening_of uri old new params document (Ok None) t v q h = tt
opening_of uri old new params document (Err e) t v q h = tt

-- one with the changed text is changed
pub change_of : (uri : List ℕ) (old new : Server) (params : Data) (before after : Document) (changes : List Change) (r : Result (Option (String Global)) AllocError) → document_in old.documents uri ≡ Some before → AreChangesIn params changes → AreChanged old.client.encoding (string_bytes before.text) changes (string_bytes after.text) → after.version ≡ version_in params → OnOk r (document_in new.documents uri ≡ Some after) → IfOk r (λ sent. IfSome sent (λ body. Publishes old.client (accepted_in old.diagnoses uri) uri after (string_bytes body))) → IfOk r (λ sent. IfSome sent (λ body. AnnouncesChange uri old new params (string_bytes body)))
change_of uri old new params before after changes (Ok (Some body)) b a c v q h = record { before = before; after = after; was_open = b; is_open = q; changes = changes; asked = a; changed = c; version = v; published = h }
change_of uri old new params before after changes (Ok None) b a c v q h = tt
change_of uri old new params before after changes (Err e) b a c v q h = tt

-- a message about the document of the parameters
pub announces_at : (notice : Notice) (uri : List ℕ) (old new : Server) (params : Data) (sent : Option (String Global)) → uri_in params ≡ Some uri → IfSome sent (λ body. AnnouncesAt notice uri old new params (string_bytes body)) → IfSome sent (λ body. Announces (Some notice) old new params (string_bytes body))
announces_at notice uri old new params (Some body) q h = (uri, q, h)
announces_at notice uri old new params None q h = tt

-- a notification is taken with its parameters
pub takes_by : (old new : Server) (method : List ℕ) (given params : Data) (reply : Reply) → given ≡ params → TakesNotification old new method given reply → TakesNotification old new method params reply
takes_by old new method given params reply q h = subst (λ (d : Data). TakesNotification old new method d reply) q h

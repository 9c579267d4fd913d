-- Notifications about documents.
use Rattle.std.specs.Prelude.{◌≡◌, ℕ, List, Option, Some, None, bytes_eq, codes, option_and_then, string_bytes, if◌then◌else◌}
use Rattle.server_protocol.specs.TextChanges.{AreChanged}
use Rattle.server_protocol.specs.declared.changes.Change.{Change}
use Rattle.server_protocol.specs.Asked.{text_in}
use Rattle.server_protocol.specs.Changes.{AreChangesIn, version_in}
use Rattle.server_protocol.specs.Documents.{document_in}
use Rattle.server_protocol.specs.declared.documents.Document.{Document}
use Rattle.server_features.specs.Diagnoses.{accepted_in}
use Rattle.server_features.specs.Diagnostics.{IsPublication, Publishes}
use Rattle.pest_language_server.specs.declared.server.Notice.{Notice}
use Rattle.pest_language_server.specs.declared.server.Notice.TheVariants.{Open, Change as Changing, Save, Close}
use Rattle.pest_language_server.specs.declared.server.Phase.{Phase}
use Rattle.pest_language_server.specs.declared.server.Phase.TheVariants.{New, Running, ShutDown}
use Rattle.pest_language_server.specs.declared.server.Server.{Server}
use Rattle.serde_json.specs.Data.{Data, array, no_items}

-- the subject of a notification of a method
abbrev pub notice_of : List ℕ → Option Notice
notice_of method = if bytes_eq method (codes "textDocument/didOpen") then Some Open
    else (if bytes_eq method (codes "textDocument/didChange") then Some Changing
    else (if bytes_eq method (codes "textDocument/didSave") then Some Save
    else (if bytes_eq method (codes "textDocument/didClose") then Some Close else None)))

-- the subject in a session, if that runs
abbrev pub notice_in : Phase → List ℕ → Option Notice
notice_in New method = None
notice_in Running method = notice_of method
notice_in ShutDown method = None

-- the document in parameters
abbrev pub uri_in : Data → Option (List ℕ)
uri_in params = text_in (codes "/textDocument/uri") params

-- the document that changes, if one may
abbrev pub changed_at : Notice → List ℕ → Option (List ℕ)
changed_at Open uri = Some uri
changed_at Changing uri = Some uri
changed_at Save uri = None
changed_at Close uri = Some uri

abbrev pub changed_by : Option Notice → Data → Option (List ℕ)
changed_by None params = None
changed_by (Some notice) params = option_and_then (changed_at notice) (uri_in params)

-- a message publishes the diagnostics of an open document
pub record PublishesAt (server : Server) (uri body : List ℕ) : Type 0 where
  pub document : Document
  pub is_open : document_in server.documents uri ≡ Some document
  pub published : Publishes server.client (accepted_in server.diagnoses uri) uri document body

-- a document is opened with the text in parameters, and its diagnostics are published
pub record AnnouncesOpening (uri : List ℕ) (old new : Server) (params : Data) (body : List ℕ) : Type 0 where
  pub document : Document
  pub is_open : document_in new.documents uri ≡ Some document
  pub text : text_in (codes "/textDocument/text") params ≡ Some (string_bytes document.text)
  pub version : document.version ≡ version_in params
  pub published : Publishes old.client (accepted_in old.diagnoses uri) uri document body

-- an open document's text is what the changes in parameters make of the former, and its diagnostics are
-- published
pub record AnnouncesChange (uri : List ℕ) (old new : Server) (params : Data) (body : List ℕ) : Type 0 where
  pub before : Document
  pub after : Document
  pub was_open : document_in old.documents uri ≡ Some before
  pub is_open : document_in new.documents uri ≡ Some after
  pub changes : List Change
  pub asked : AreChangesIn params changes
  pub changed : AreChanged old.client.encoding (string_bytes before.text) changes (string_bytes after.text)
  pub version : after.version ≡ version_in params
  pub published : Publishes old.client (accepted_in old.diagnoses uri) uri after body

-- a document is closed, and has no diagnostics any more
pub record AnnouncesClosing (uri : List ℕ) (new : Server) (body : List ℕ) : Type 0 where
  pub closed : document_in new.documents uri ≡ None
  pub published : IsPublication uri None (array no_items) body

-- a message that a notification about a document gives rise to
abbrev pub AnnouncesAt : Notice → List ℕ → Server → Server → Data → List ℕ → Type 0
AnnouncesAt Open uri old new params body = AnnouncesOpening uri old new params body
AnnouncesAt Changing uri old new params body = AnnouncesChange uri old new params body
AnnouncesAt Save uri old new params body = PublishesAt old uri body
AnnouncesAt Close uri old new params body = AnnouncesClosing uri new body

abbrev pub Announces : Option Notice → Server → Server → Data → List ℕ → Type 0
Announces None old new params body = ⊥
Announces (Some notice) old new params body =
    (uri : List ℕ) × (uri_in params ≡ Some uri) × AnnouncesAt notice uri old new params body

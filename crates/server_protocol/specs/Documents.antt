-- The open documents.
use Rattle.std.specs.Prelude.{◌≡◌, ℕ, List, false, Option, Some, None, String, bytes_eq}
use Rattle.std.specs.declared.alloc.Global.{Global}
use Rattle.std.specs.BTreeMap.{get_by_text}
use Rattle.server_protocol.specs.declared.documents.Document.{Document}
use Rattle.server_protocol.specs.declared.documents.Documents.{Documents}

-- the open document of a URI
abbrev pub document_in : Documents → List ℕ → Option Document
document_in documents uri = get_by_text documents.documents uri

-- all open documents with their URIs
abbrev pub open_documents : Documents → List (String Global × Document)
open_documents documents = documents.documents.entries

-- the documents are the same, but for that of one URI, if there is one
abbrev pub KeepsDocuments : Option (List ℕ) → Documents → Documents → Type 0
KeepsDocuments None old new = (uri : List ℕ) → document_in new uri ≡ document_in old uri
KeepsDocuments (Some changed) old new =
    (uri : List ℕ) → bytes_eq changed uri ≡ false → document_in new uri ≡ document_in old uri

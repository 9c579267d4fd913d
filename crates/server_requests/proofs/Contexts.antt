-- Contexts of open documents.
use Rattle.std.proofs.Common.{◌≡◌, ◌∙◌, ap, ℕ, List, Some, codes, refl, string_bytes, sym}
use Rattle.server_protocol.specs.Asked.{text_in}
use Rattle.server_protocol.specs.Documents.{document_in}
use Rattle.server_protocol.specs.declared.client.Client.{Client}
use Rattle.server_protocol.specs.declared.documents.Document.{Document}
use Rattle.server_protocol.specs.declared.documents.Documents.{Documents}
use Rattle.server_requests.specs.Names.{IsContextIn, IsContextOf}
use Rattle.server_requests.specs.declared.context.Context.{Context}
use Rattle.serde_json.specs.Data.{Data}

-- the context of an open document
pub context_in : (client : Client) (documents : Documents) (params : Data) (uri : List ℕ) (document : Document) (context : Context) → text_in (codes "/textDocument/uri") params ≡ Some uri → document_in documents uri ≡ Some document → IsContextOf client uri (string_bytes document.text) context → IsContextIn client documents params context
context_in client documents params uri document context t o h = record {
  document = document;
  named = t ∙ ap Some (sym h.same_uri);
  is_open = ap (document_in documents) h.same_uri ∙ o;
  of_document = record { same_uri = refl; same_text = h.same_text; same_client = h.same_client; lexed = h.lexed; defined = h.defined };
}

-- The name that a request is about.
use Rattle.std.specs.Prelude.{◌≡◌, ◌⊎◌, ◌≤◌, ℕ, List, Some, None, codes, map, option_and_then, string_bytes}
use Rattle.std.specs.Str.{IsCharBoundary}
use Rattle.serde_json.specs.Data.{Data}
use Rattle.server_requests.specs.Around.{name_around}
use Rattle.server_protocol.specs.Asked.{asked_position, text_in}
use Rattle.server_protocol.specs.Changes.{asked_range}
use Rattle.server_protocol.specs.Documents.{document_in}
use Rattle.server_protocol.specs.declared.client.Client.{Client}
use Rattle.server_protocol.specs.declared.documents.Document.{Document}
use Rattle.server_protocol.specs.declared.documents.Documents.{Documents}
use Rattle.server_requests.specs.declared.context.Context.{Context}
use Rattle.server_requests.specs.declared.context.Name.{Name}
use Rattle.server_protocol.specs.Positions.{IsOffset}
use Rattle.server_protocol.specs.declared.positions.Position.{Position}
use Rattle.server_protocol.specs.declared.positions.Range.{Range}
use Rattle.server_symbols.specs.Lexemes.{AreTokens}
use Rattle.server_symbols.specs.Parts.{part}
use Rattle.server_symbols.specs.Tokens.{defined_names, name_of}
use Rattle.server_symbols.specs.declared.tokens.Extent.{Extent}

-- the subject of a context
pub record IsContextOf (client : Client) (uri text : List ℕ) (context : Context) : Type 0 where
  pub same_uri : context.uri.now ≡ uri
  pub same_text : context.text.now ≡ text
  pub same_client : context.client ≡ client
  pub lexed : ∥ AreTokens context.text.now context.tokens.now ∥₁
  pub defined : map name_of context.definitions.now ≡ defined_names context.tokens.now

-- the context of the open document that parameters name
pub record IsContextIn (client : Client) (documents : Documents) (params : Data) (context : Context)
    : Type 0 where
  pub document : Document
  pub named : text_in (codes "/textDocument/uri") params ≡ Some context.uri.now
  pub is_open : document_in documents context.uri.now ≡ Some document
  pub of_document : IsContextOf client context.uri.now (string_bytes document.text) context

-- parameters name no document, or one that is not open
abbrev pub LacksDocument : Documents → Data → Type 0
LacksDocument documents params =
    option_and_then (document_in documents) (text_in (codes "/textDocument/uri") params) ≡ None

-- the byte at the position in parameters
pub record IsAskedOffset (context : Context) (d : Data) (offset : ℕ) : Type 0 where
  pub position : Position
  pub asked : asked_position d ≡ Some position
  pub named : IsOffset context.client.encoding context.text.now position offset

-- the bytes of the range in parameters
pub record IsAskedExtent (context : Context) (d : Data) (extent : Extent) : Type 0 where
  pub range : Range
  pub asked : asked_range d ≡ Some range
  pub start : IsOffset context.client.encoding context.text.now range.start extent.start
  pub end : IsOffset context.client.encoding context.text.now range.end extent.end

-- an extent runs backwards, ends past the text, or cuts a character
abbrev pub IsNoPart : List ℕ → Extent → Type 0
IsNoPart text extent =
    extent.start ≤ extent.end → IsCharBoundary text extent.start → ¬ (IsCharBoundary text extent.end)

-- a name has the text of its bytes
abbrev pub IsNameIn : List ℕ → Name → Type 0
IsNameIn text name = name.text.now ≡ part text name.extent

-- the first name that a byte is in, or at the end of
pub record IsNameAround (context : Context) (offset : ℕ) (name : Name) : Type 0 where
  pub around : name_around offset context.tokens.now ≡ Some name.extent
  pub text : IsNameIn context.text.now name

-- a byte is in no name
abbrev pub LacksName : Context → ℕ → Type 0
LacksName context offset = (name_around offset context.tokens.now ≡ None)
    ⊎ ((extent : Extent) × (name_around offset context.tokens.now ≡ Some extent)
    × IsNoPart context.text.now extent)

-- the name at the position in parameters
pub record IsAskedName (context : Context) (d : Data) (name : Name) : Type 0 where
  pub offset : ℕ
  pub at : IsAskedOffset context d offset
  pub around : IsNameAround context offset name

-- parameters have no position, or one at which there is no name
abbrev pub HasNoName : Context → Data → Type 0
HasNoName context d = (asked_position d ≡ None)
    ⊎ ((offset : ℕ) × IsAskedOffset context d offset × LacksName context offset)

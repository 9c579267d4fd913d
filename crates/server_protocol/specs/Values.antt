-- Positions, ranges, locations and edits as JSON.
use Rattle.std.specs.Prelude.{ℕ, List, length, min, codes}
use Rattle.serde_json.specs.Data.{Data, Items, number, unsigned, string, array, object, no_members, member}
use Rattle.server_protocol.specs.Positions.{position_at}
use Rattle.server_protocol.specs.declared.positions.Encoding.{Encoding}
use Rattle.server_protocol.specs.declared.positions.Position.{Position}
use Rattle.server_symbols.specs.declared.tokens.Extent.{Extent}

abbrev pub position_data : Position → Data
position_data p = object (member (codes "character") (number (unsigned p.character))
    (member (codes "line") (number (unsigned p.line)) no_members))

-- the position of a byte, or of the end of the text
abbrev pub offset_data : Encoding → List ℕ → ℕ → Data
offset_data encoding text k = position_data (position_at encoding text (min k (length text)))

abbrev pub range_data : Encoding → List ℕ → Extent → Data
range_data encoding text extent = object (member (codes "end") (offset_data encoding text extent.end)
    (member (codes "start") (offset_data encoding text extent.start) no_members))

abbrev pub location_data : List ℕ → Encoding → List ℕ → Extent → Data
location_data uri encoding text extent = object (member (codes "range") (range_data encoding text extent)
    (member (codes "uri") (string uri) no_members))

abbrev pub edit_data : Encoding → List ℕ → List ℕ → Extent → Data
edit_data encoding text new extent = object (member (codes "newText") (string new)
    (member (codes "range") (range_data encoding text extent) no_members))

-- edits of one document
abbrev pub workspace_edit_data : List ℕ → Items → Data
workspace_edit_data uri edits =
    object (member (codes "changes") (object (member uri (array edits) no_members)) no_members)

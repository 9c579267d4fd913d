-- Ranges, locations and edits in the document of a request, as JSON.
use Rattle.std.specs.Prelude.{ℕ, List, map}
use Rattle.serde_json.specs.Data.{Data, array}
use Rattle.serde_json.specs.View.{items_of}
use Rattle.server_protocol.specs.Values.{edit_data, location_data, range_data}
use Rattle.server_requests.specs.declared.context.Context.{Context}
use Rattle.server_symbols.specs.declared.tokens.Extent.{Extent}

abbrev pub range_at : Context → Extent → Data
range_at context extent = range_data context.client.encoding context.text.now extent

abbrev pub location_at : Context → Extent → Data
location_at context extent =
    location_data context.uri.now context.client.encoding context.text.now extent

abbrev pub locations_at : Context → List Extent → Data
locations_at context extents = array (items_of (map (location_at context) extents))

abbrev pub edit_at : Context → List ℕ → Extent → Data
edit_at context new extent = edit_data context.client.encoding context.text.now new extent

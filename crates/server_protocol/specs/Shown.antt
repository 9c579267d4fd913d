-- The text and the encoding of an index.
use Rattle.std.specs.Prelude.{ℕ, List}
use Rattle.server_protocol.specs.declared.index.PositionIndex.{PositionIndex}
use Rattle.server_protocol.specs.declared.positions.Encoding.{Encoding}

-- its text
abbrev pub index_text : PositionIndex → List ℕ
index_text index = index.text.now

-- the code units in which its characters are counted
abbrev pub index_encoding : PositionIndex → Encoding
index_encoding index = index.encoding

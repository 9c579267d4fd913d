-- Marks of an index.
use Rattle.std.specs.Prelude.{◌≡◌, ℕ, List, All}
use Rattle.server_protocol.specs.Positions.{position_at}
use Rattle.server_protocol.specs.declared.index.Mark.{Mark}
use Rattle.server_protocol.specs.declared.positions.Encoding.TheVariants.{Utf8, Utf16}

-- an offset with its position in each encoding
abbrev pub IsMark : List ℕ → Mark → Type 0
IsMark text mark = (mark.utf8 ≡ position_at Utf8 text mark.offset)
    × (mark.utf16 ≡ position_at Utf16 text mark.offset)

abbrev pub AreMarks : List ℕ → List Mark → Type 0
AreMarks text marks = All (IsMark text) marks

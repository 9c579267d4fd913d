-- Laws of positions.
use Rattle.std.specs.Prelude.{◌≡◌, ℕ, List}
use Rattle.server_protocol.specs.Positions.{IsOffset, IsPlace, position_at}
use Rattle.server_protocol.specs.declared.positions.Encoding.{Encoding}
use Rattle.server_protocol.specs.declared.positions.Position.{Position}

-- a position names one byte
abbrev pub OneOffset : Type 0
OneOffset = (encoding : Encoding) (text : List ℕ) (position : Position) (a b : ℕ)
    → IsOffset encoding text position a → IsOffset encoding text position b → a ≡ b

-- the position of a byte names that byte, if any position does
abbrev pub Exact : Type 0
Exact = (encoding : Encoding) (text : List ℕ) (k : ℕ)
    → IsPlace text k → IsOffset encoding text (position_at encoding text k) k

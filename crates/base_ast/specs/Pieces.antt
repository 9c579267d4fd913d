-- The bytes of destructured expressions, and of the pieces that are still to be written.
use Rattle.std.specs.Prelude.{◌≡◌, ◌≤◌, ℕ, ◌+◌, ◌*◌, List, [], ◌∷◌, ◌++◌, codes, encode_utf8_all}
use Rattle.std.specs.Str.{chars}
use Rattle.base_ast.specs.Printing.{literal}
use Rattle.base_ast.specs.PrintedBytes.{ByPlace, everywhere, skip_bytes, range_bytes, slice_bytes, counts_bytes, predicate_bytes, sequence_bytes, choice_bytes, postfix_bytes, tagged_bytes, wrapper_bytes}
use Rattle.base_ast.specs.declared.printing.pieces.Leaf.{Leaf}
use Rattle.base_ast.specs.declared.printing.pieces.Leaf.TheVariants as leaf
use Rattle.base_ast.specs.declared.printing.pieces.Parts.{Parts}
use Rattle.base_ast.specs.declared.printing.pieces.Parts.TheVariants as parts
use Rattle.base_ast.specs.declared.printing.pieces.Piece.{Piece}
use Rattle.base_ast.specs.declared.printing.pieces.Piece.TheVariants as piece
use Rattle.base_ast.specs.declared.printing.pieces.Place.{Place}
use Rattle.base_ast.specs.declared.printing.pieces.Place.TheVariants as place

-- an expression without operands
abbrev pub leaf_bytes : Leaf → List ℕ
leaf_bytes (leaf.Str s) = encode_utf8_all (literal 34 (chars s.now))
leaf_bytes (leaf.Insens s) = codes "^" ++ encode_utf8_all (literal 34 (chars s.now))
leaf_bytes (leaf.Range s u) = range_bytes (chars s.now) (chars u.now)
leaf_bytes (leaf.Ident s) = s.now
leaf_bytes (leaf.PeekSlice i j) = slice_bytes i j
leaf_bytes (leaf.Skip ss) = skip_bytes ss.now
leaf_bytes (leaf.PushLiteral s) =
    codes "PUSH_LITERAL(" ++ encode_utf8_all (literal 34 (chars s.now)) ++ codes ")"

-- the bytes of an expression at a position
abbrev pub bytes_at : Place → ByPlace → List ℕ
bytes_at place.Alone x = x.alone
bytes_at place.AfterTilde x = x.after_tilde
bytes_at place.AfterBar x = x.after_bar
bytes_at place.BeforePostfix x = x.before_postfix

-- the position of a wrapper's operand
abbrev pub inside : Place → Place
inside place.BeforePostfix = place.BeforePostfix
inside _ = place.Alone

-- `bytes` gives the bytes of an operand, and `heft` the work to write them
module _ {E : Type 0} (bytes : E → ByPlace) where
  abbrev pub bytes_of_parts : Parts E → ByPlace
  bytes_of_parts (parts.Leaf l) = everywhere (leaf_bytes l)
  bytes_of_parts (parts.Predicate sign x) = predicate_bytes sign.now (bytes x.now.value)
  bytes_of_parts (parts.Sequence x y) = sequence_bytes (bytes x.now.value) (bytes y.now.value)
  bytes_of_parts (parts.Choice x y) = choice_bytes (bytes x.now.value) (bytes y.now.value)
  bytes_of_parts (parts.Postfix x sign) = postfix_bytes (bytes x.now.value) sign.now
  bytes_of_parts (parts.Counted x counts) = postfix_bytes (bytes x.now.value) (counts_bytes counts)
  bytes_of_parts (parts.Push x) = everywhere (codes "PUSH(" ++ (bytes x.now.value).alone ++ codes ")")
  bytes_of_parts (parts.Tag tag x) = tagged_bytes tag.now (bytes x.now.value)
  bytes_of_parts (parts.Wrapper x) = wrapper_bytes (bytes x.now.value)

  abbrev pub piece_bytes : Piece E → List ℕ
  piece_bytes (piece.Sign sign) = sign.now
  piece_bytes (piece.Counts counts) = counts_bytes counts
  piece_bytes (piece.Leaf l) = leaf_bytes l
  piece_bytes (piece.Part k x) = bytes_at k (bytes x.now)

  -- the last piece is written first
  abbrev pub in_turn : List (Piece E) → List ℕ
  in_turn [] = []
  in_turn (p ∷ ps) = in_turn ps ++ piece_bytes p

module _ {E : Type 0} (heft : E → ℕ) where
  abbrev pub heft_of_parts : Parts E → ℕ
  heft_of_parts (parts.Leaf l) = 0
  heft_of_parts (parts.Predicate sign x) = heft x.now.value
  heft_of_parts (parts.Sequence x y) = heft x.now.value + heft y.now.value
  heft_of_parts (parts.Choice x y) = heft x.now.value + heft y.now.value
  heft_of_parts (parts.Postfix x sign) = heft x.now.value
  heft_of_parts (parts.Counted x counts) = heft x.now.value
  heft_of_parts (parts.Push x) = heft x.now.value
  heft_of_parts (parts.Tag tag x) = heft x.now.value
  heft_of_parts (parts.Wrapper x) = heft x.now.value

  abbrev pub piece_load : Piece E → ℕ
  piece_load (piece.Part k x) = 6 * heft x.now
  piece_load _ = 1

  abbrev pub load : List (Piece E) → ℕ
  load [] = 0
  load (p ∷ ps) = piece_load p + load ps

-- the text is pushed before the pieces of the list, and adds at most `more` work
pub record Puts {E : Type 0} (bytes : E → ByPlace) (heft : E → ℕ) (old new : List (Piece E))
    (text : List ℕ) (more : ℕ) : Type 0 where
  pub first : in_turn bytes new ≡ text ++ in_turn bytes old
  pub bounded : load heft new ≤ more + load heft old

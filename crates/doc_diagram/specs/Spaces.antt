-- The space that boxes take, and where their rails enter.
use Rattle.std.specs.Prelude.{ℕ, ◌+◌, ◌-◌, ◌*◌, ◌^◌, ◌≤◌, List, [], ◌∷◌, All, Bool, false, true, Option, Some, None, min, slice_get, take}
use Rattle.std.specs.Option.{option_map_or}
use Rattle.std.specs.Str.{chars}
use Rattle.unicode_width.specs.Width.{str_width}
use Rattle.doc_diagram.specs.declared.boxes.BoxContent.{BoxContent}
use Rattle.doc_diagram.specs.declared.boxes.BoxContent.TheVariants as content
use Rattle.doc_diagram.specs.declared.boxes.Extent.{Extent}
use Rattle.doc_diagram.specs.declared.boxes.LayoutBox.{LayoutBox}
use Rattle.doc_diagram.specs.declared.boxes.Point.{Point}

-- the number, or the greatest one of 64 bits
abbrev pub capped : ℕ → ℕ
capped n = min n (2 ^ 64 - 1)

-- the space of a box that reaches as far above its rail as below
abbrev pub level : ℕ → ℕ → Extent
level width half_height = record {
  width = width;
  ascent = half_height;
  descent = half_height;
  exit_y = 0;
}

-- a column of a text takes eight pixels
abbrev pub text_width : List ℕ → ℕ
text_width text = capped (8 * str_width false (chars text))

-- a box without children that shows a text
abbrev pub is_text_box : BoxContent → Bool
is_text_box content.Terminal = true
is_text_box (content.RuleCall r) = true
is_text_box content.Builtin = true
is_text_box _ = false

-- the box of a number, and where its rail enters, if there are both
abbrev pub with_entry : Option LayoutBox → Option Point → List (LayoutBox × Point)
with_entry (Some box) (Some entry) = (box, entry) ∷ []
with_entry (Some box) None = []
with_entry None entry = []

abbrev pub placed_box : List LayoutBox → List Point → ℕ → List (LayoutBox × Point)
placed_box boxes entries i = with_entry (slice_get boxes i) (slice_get entries i)

-- the width of the box of a number, if there is one
abbrev pub box_width : List LayoutBox → ℕ → ℕ
box_width boxes i = option_map_or (λ b. b.extent.width) (slice_get boxes i) 0

-- of the boxes of these numbers none is wider
abbrev pub HasRoomFor : List LayoutBox → List ℕ → ℕ → Type 0
HasRoomFor boxes indices width = All (λ i. box_width boxes i ≤ width) indices

-- the children that are drawn in a box: of a loop and a group the first one
abbrev pub drawn_children : BoxContent → List ℕ → List ℕ
drawn_children content.Sequence children = children
drawn_children content.Choice children = children
drawn_children content.Columns children = children
drawn_children content.Loop children = take 1 children
drawn_children content.Group children = take 1 children
drawn_children _ children = []

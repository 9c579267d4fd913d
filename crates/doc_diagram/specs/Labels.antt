-- The texts that a diagram shows.
use Rattle.std.specs.Prelude.{ℕ, List, [], ◌∷◌, ◌++◌, ◌==◌, codes, encode_utf8, encode_utf8_all, if◌then◌else◌, length, take}
use Rattle.std.specs.Fmt.{decimal}
use Rattle.std.specs.Str.{chars}
use Rattle.base_language.specs.Language.Text.{Text}
use Rattle.base_language.specs.Language.Expression.{Expression, Range}
use Rattle.base_ast.specs.Printing.{bound_literal, printed}
use Rattle.doc_diagram.specs.declared.labels.Caption.{Caption}
use Rattle.doc_diagram.specs.declared.labels.Caption.TheVariants as caption

-- the first 40 characters of a text
abbrev pub first_characters : List ℕ → List ℕ
first_characters text = encode_utf8_all (take 40 (chars text))

-- a text; of a longer one its first 40 characters, and an ellipsis
abbrev pub shortened : List ℕ → List ℕ
shortened text =
    first_characters text
    ++ (if length (first_characters text) == length text then [] else encode_utf8 0x2026)

-- an expression without operands: as it is printed, a range without its parentheses
abbrev pub leaf_text : Expression → Text
leaf_text (Range t u) = bound_literal t ++ codes ".." ++ bound_literal u
leaf_text e = printed e

abbrev pub leaf_label : Expression → List ℕ
leaf_label e = shortened (encode_utf8_all (leaf_text e))

-- a caption
abbrev pub caption_text : Caption → List ℕ
caption_text caption.Empty = []
caption_text (caption.Fixed text) = text.now
caption_text (caption.Tag tag) = codes "#" ++ shortened tag.now
caption_text (caption.Exactly n) = decimal n ++ codes " times"
caption_text (caption.AtLeast n) = decimal n ++ codes " times or more"
caption_text (caption.AtMost n) = codes "up to " ++ decimal n ++ codes " times"
caption_text (caption.Between m n) = decimal m ++ codes " to " ++ decimal n ++ codes " times"

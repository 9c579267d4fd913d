-- The separators of words.
use Rattle.std.specs.Prelude.{ℕ, Bool, false}
use Rattle.format_grammar.specs.declared.pieces.Separator.{Separator}
use Rattle.format_grammar.specs.declared.pieces.Separator.TheVariants.{Blank, Line, Nothing}

-- nothing, a blank and a possible line end, by how far they keep words apart
abbrev pub rank : Separator → ℕ
rank Nothing = 0
rank Blank = 1
rank (Line is_blank is_operator) = 2

-- a possible line end that is a blank in one line
abbrev pub has_blank : Separator → Bool
has_blank Nothing = false
has_blank Blank = false
has_blank (Line is_blank is_operator) = is_blank

-- a possible line end before an operator
abbrev pub has_operator : Separator → Bool
has_operator Nothing = false
has_operator Blank = false
has_operator (Line is_blank is_operator) = is_operator

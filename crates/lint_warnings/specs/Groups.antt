-- The spans of choices in code.
use Rattle.std.specs.Prelude.{List, map}
use Rattle.front_spanned.specs.Nodes.{piece_of}
use Rattle.front_spanned.specs.Spanned.{Span}
use Rattle.lint_warnings.specs.declared.choices.UnreachableChoice.{UnreachableChoice}

abbrev pub pieces_of : UnreachableChoice → List Span
pieces_of choice = map piece_of choice.spans.items

-- Texts in which parts are replaced.
use Rattle.std.specs.Prelude.{ℕ, List, [], ◌∷◌, ◌++◌, drop, slice_range, string_bytes}
use Rattle.pest_test.specs.declared.updates.Edit.{Edit}

-- the rest of a text from a byte on, in which each edit's text stands for its part
abbrev pub edited_from : List ℕ → ℕ → List Edit → List ℕ
edited_from file place [] = drop place file
edited_from file place (edit ∷ edits) =
    slice_range file place edit.part.start ++ string_bytes edit.text ++ edited_from file edit.part.end edits

-- Edits that make one text another.
use Rattle.std.specs.Prelude.{◌≡◌, ◌≤◌, ◌++◌, ℕ, List, [], ◌∷◌, length}
use Rattle.std.specs.List.{slice_range}
use Rattle.server_symbols.specs.Parts.{part}
use Rattle.server_symbols.specs.declared.edits.Edit.{Edit}

-- a text from a byte on, in which each edit puts a part of another text
abbrev pub edited : List ℕ → List ℕ → ℕ → List Edit → List ℕ
edited text other cursor [] = slice_range text cursor (length text)
edited text other cursor (edit ∷ edits) =
    slice_range text cursor edit.old.start ++ (part other edit.new ++ edited text other edit.old.end edits)

-- edits are in order from a byte on, and no two of them meet
abbrev pub AreInOrder : ℕ → List Edit → Type 0
AreInOrder cursor [] = Unit {0}
AreInOrder cursor (edit ∷ edits) =
    (cursor ≤ edit.old.start) × (edit.old.start ≤ edit.old.end) × AreInOrder edit.old.end edits

-- edits make one text another
pub record Edits (text other : List ℕ) (edits : List Edit) : Type 0 where
  pub in_order : AreInOrder 0 edits
  pub edited : edited text other 0 edits ≡ other

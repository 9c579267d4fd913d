-- Parts of texts.
use Rattle.std.specs.Prelude.{◌≡◌, ◌++◌, ℕ, List, [], ◌∷◌, length}
use Rattle.std.specs.List.{slice_range}
use Rattle.server_symbols.specs.declared.tokens.Extent.{Extent}

-- the bytes of an extent
abbrev pub part : List ℕ → Extent → List ℕ
part text extent = slice_range text extent.start extent.end

-- these bytes of a text are a name
abbrev pub IsNamed : List ℕ → List ℕ → Extent → Type 0
IsNamed text name extent = part text extent ≡ name

-- a text from a byte on, in which parts are replaced
abbrev pub replaced : List ℕ → ℕ → List Extent → List ℕ → List ℕ
replaced text cursor [] new = slice_range text cursor (length text)
replaced text cursor (extent ∷ extents) new =
    slice_range text cursor extent.start ++ (new ++ replaced text extent.end extents new)

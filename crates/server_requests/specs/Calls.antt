-- Calls among the places of a name.
use Rattle.std.specs.Prelude.{◌≡◌, ◌==◌, ℕ, List, Bool, not, nat_eq}
use Rattle.std.specs.HashSet.{HashSet, contains}
use Rattle.std.specs.List.{list_any}
use Rattle.std.specs.declared.hash.BuildHasherDefault.{BuildHasherDefault}
use Rattle.std.specs.declared.hash.FoldHasher.{FoldHasher}
use Rattle.server_symbols.specs.declared.outline.Definition.{Definition}
use Rattle.server_symbols.specs.declared.tokens.Extent.{Extent}

-- whether the name of a definition begins with a byte
abbrev pub begins_at : ℕ → Definition → Bool
begins_at k definition = definition.name.start == k

-- whether an extent is no definition's name
abbrev pub is_call : List Definition → Extent → Bool
is_call definitions extent = not (list_any (begins_at extent.start) definitions)

-- the bytes at which the names of definitions begin
abbrev pub AreStarts : List Definition → HashSet ℕ (BuildHasherDefault FoldHasher) → Type 0
AreStarts definitions starts = (k : ℕ) → contains nat_eq starts k ≡ list_any (begins_at k) definitions

-- whether an extent begins at none of some bytes
abbrev pub is_outside : HashSet ℕ (BuildHasherDefault FoldHasher) → Extent → Bool
is_outside starts extent = not (contains nat_eq starts extent.start)

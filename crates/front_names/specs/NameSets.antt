-- Sets of names.
use Rattle.std.specs.Prelude.{◌≡◌, ℕ, List, Bool, not, ◌&&◌, bytes_eq}
use Rattle.std.specs.Borrow.{Bor}
use Rattle.std.specs.HashSet.{HashSet, contains_by}
use Rattle.std.specs.declared.hash.FoldHasher.{FoldHasher}
use Rattle.std.specs.declared.hash.BuildHasherDefault.{BuildHasherDefault}
use Rattle.base_language.specs.Language.Text.{Text}
use Rattle.base_language.specs.Language.Builtins.{is_one_of}
use Rattle.base_language.specs.Pieces.Saying.{Span, written}
use Rattle.front_names.specs.Names.{is_builtin}

-- a set of names
abbrev pub NameSet : Type 0
NameSet = HashSet (Bor (List ℕ)) (BuildHasherDefault FoldHasher)

-- the set has these names, and no others
abbrev pub HasNames : List Text → NameSet → Type 0
HasNames names set =
    (name : Bor (List ℕ)) → contains_by (λ k. bytes_eq name.now k.now) set ≡ is_one_of names name.now

-- the name is neither in the set nor a builtin's
abbrev pub is_unknown : NameSet → Text → Bool
is_unknown set name = not (contains_by (λ k. bytes_eq name k.now) set) && not (is_builtin name)

-- whether the name of a piece is not in the set
abbrev pub is_outside : NameSet → Span → Bool
is_outside set place = is_unknown set (written place)

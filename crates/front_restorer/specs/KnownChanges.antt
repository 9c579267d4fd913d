-- The rules that change the stack, as the restorer knows them.
use Rattle.std.specs.Prelude.{◌≡◌, ⊤, ℕ, ◌+◌, List, [], ◌∷◌, ◌++◌, Some, Bool, slice_get}
use Rattle.std.specs.Bool.{Decides}
use Rattle.std.specs.declared.alloc.Global.{Global}
use Rattle.std.specs.declared.string.String.{String}
use Rattle.base_language.specs.Language.Text.{Text}
use Rattle.base_language.specs.Language.Expression.{Expression, Ident, Grammar}
use Rattle.base_language.specs.Rewritings.Wrapping.{ChangesStack}
use Rattle.base_ast.specs.Ast.{text_of}
use Rattle.base_graphs.specs.Least.{is_set_at}
use Rattle.front_restorer.specs.Calls.{AreNumbersOf, name_changes}
use Rattle.front_restorer.specs.Names.{number_of}
use Rattle.front_restorer.specs.declared.changes.Changes.{Changes}

-- whether a name changes the stack
abbrev pub changes_stack : Changes → Text → Bool
changes_stack c = name_changes c.names (is_set_at c.flags.items)

-- the restorer knows rightly which names change the stack
abbrev pub KnowsChanges : Changes → Grammar → Type 0
KnowsChanges c g = (n : String Global)
    → Decides (changes_stack c (text_of n)) (ChangesStack g (Ident (text_of n)))

-- the numbers of the names in an expression are listed from an index on
abbrev pub HasNumbersFrom : Changes → Expression → ℕ → Type 0
HasNumbersFrom c e i = AreNumbersOf c.names c.noted.numbers.items e i

-- the number of the first of some names, if there is one, is at an index of the list
abbrev pub IsNext : Changes → List Text → ℕ → Type 0
IsNext c [] i = ⊤
IsNext c (n ∷ ns) i = slice_get c.noted.numbers.items i ≡ Some (number_of c.names n)

-- the numbers from one index up to another are those of names, in order
abbrev pub AreNumbers : Changes → List Text → ℕ → ℕ → Type 0
AreNumbers c [] i end = i ≡ end
AreNumbers c (n ∷ ns) i end =
    (slice_get c.noted.numbers.items i ≡ Some (number_of c.names n)) × AreNumbers c ns (i + 1) end

-- the names `ns` from index `i` on are read down to the names `ms` from index `j` on, with any names
-- after them
abbrev pub ReadsOn : Changes → List Text → ℕ → List Text → ℕ → Type 0
ReadsOn c ns i ms j = (more : List Text) (end : ℕ)
    → AreNumbers c (ns ++ more) i end → AreNumbers c (ms ++ more) j end

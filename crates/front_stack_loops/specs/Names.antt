-- Kinds of names.
use Rattle.std.specs.Prelude.{ℕ, Option, Some, None}
use Rattle.base_language.specs.Language.Text.{Text}
use Rattle.base_language.specs.Language.Builtins.{Builtin, One, Property, Newline, Soi, Eoi, Peek, Pop, Drop, PeekAll, PopAll, builtin_of}
use Rattle.base_language.specs.Language.Expression.{Grammar, last_place}
use Rattle.front_stack_loops.specs.declared.table.NodeKind.{NodeKind}
use Rattle.front_stack_loops.specs.declared.table.NodeKind.TheVariants as is

-- the kind of a builtin
abbrev pub builtin_kind : Option Builtin → NodeKind
builtin_kind (Some Peek) = is.Peek
builtin_kind (Some Pop) = is.Pop
builtin_kind (Some Drop) = is.Drop
builtin_kind (Some PeekAll) = is.PeekAll
builtin_kind (Some PopAll) = is.PopAll
builtin_kind (Some (One f)) = is.Leaf
builtin_kind (Some (Property n)) = is.Leaf
builtin_kind (Some Newline) = is.Leaf
builtin_kind (Some Soi) = is.Leaf
builtin_kind (Some Eoi) = is.Leaf
builtin_kind None = is.Leaf

abbrev pub name_kind : Text → Option ℕ → NodeKind
name_kind n None = builtin_kind (builtin_of n)
name_kind n (Some r) = is.Call r

-- the kind of a name
abbrev pub kind_in : Grammar → Text → NodeKind
kind_in g n = name_kind n (last_place g n)

-- The kinds of names.
use Rattle.std.specs.Prelude.{ℕ, Option, Some, None, Bool, if◌then◌else◌}
use Rattle.base_language.specs.Language.Text.{Text}
use Rattle.base_language.specs.Language.Expression.{Grammar, last_place}
use Rattle.front_analysis.specs.Names.{is_end}
use Rattle.front_analysis.specs.declared.kind_table.NodeKind.{NodeKind}
use Rattle.front_analysis.specs.declared.kind_table.NodeKind.TheVariants as is

abbrev pub name_kind : Bool → Option ℕ → NodeKind
name_kind end None = if end then is.End else is.Taking
name_kind end (Some r) = if end then is.EndCall r else is.Call r

-- the kind of a name
abbrev pub kind_in : Grammar → Text → NodeKind
kind_in g n = name_kind (is_end n) (last_place g n)

-- Which names are taken for recursive.
use Rattle.std.specs.Prelude.{Bool, List}
use Rattle.base_language.specs.Language.Text.{Text}
use Rattle.base_language.specs.Language.Expression.{Grammar, last_place}
use Rattle.base_graphs.specs.Least.{is_set_at}
use Rattle.front_stack_loops.specs.Answers.{at_place}

-- the flag of the rule that a name means is set
abbrev pub is_flagged : Grammar → List Bool → Text → Bool
is_flagged g flags n = at_place (is_set_at flags) (last_place g n)

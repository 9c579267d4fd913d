-- The list of a grammar's rules.
use Rattle.std.specs.Prelude.{◌≡◌, ℕ, List, Option, None, string_bytes, ⊤}
use Rattle.std.specs.Io.KnownBytes.{Appends}
use Rattle.base_language.specs.Language.Expression.{Grammar}
use Rattle.pest_meta.specs.Written.{SpellsAccepted}
use Rattle.pest_run.specs.RuleNames.{name_lines}
use Rattle.pest_run.specs.declared.outcomes.Outcome.{Outcome}
use Rattle.pest_run.specs.declared.outcomes.Outcome.TheVariants as is

-- the lines show the names of the rules, or an allocation failed
abbrev pub IsListOutcome : Grammar → Outcome → Type 0
IsListOutcome g (is.Shown lines note) = (string_bytes lines ≡ name_lines g) × (note ≡ None)
IsListOutcome g is.Memory = ⊤
IsListOutcome g _ = ⊥

-- the text spells rules, which are accepted, and the writer's contents grew by their names
pub record ListsRules (grammar : List ℕ) (old new : Option (List ℕ)) : Type 0 where
  pub rules : Grammar
  pub spelled : SpellsAccepted grammar rules
  pub gained : Appends old new (name_lines rules)

-- The rules of a grammar's text as they are written, in the form that runs.
use Rattle.std.specs.Prelude.{◌≡◌, ℕ, List, []}
use Rattle.base_language.specs.Language.Expression.{Grammar}
use Rattle.base_language.specs.Language.State.{Trees}
use Rattle.base_language.specs.Rewritings.Rewriting.{SameOutcomes}
use Rattle.front_optimizer.specs.Written.{AreWrittenOut}
use Rattle.pest_meta.specs.Spelling.{AreAccepted, HasTrees, complaints_in}

-- the text spells these rules, which are accepted, and its names are in order
pub record SpellsAccepted (text : List ℕ) (rules : Grammar) : Type 0 where
  pub trees : Trees
  pub of_text : HasTrees text trees
  pub well_named : complaints_in text trees ≡ []
  pub accepted : AreAccepted text trees rules

-- the rules that the text spells, with counted repetitions written out; they have the same outcomes
pub record IsWritten (text : List ℕ) (rules : Grammar) : Type 0 where
  pub spelled : Grammar
  pub accepted : SpellsAccepted text spelled
  pub written_out : AreWrittenOut spelled rules
  pub outcomes : SameOutcomes spelled rules

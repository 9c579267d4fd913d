-- The rules of an accepted text, with the spans of their nodes.
use Rattle.std.specs.Prelude.{◌≡◌, ℕ, List, []}
use Rattle.std.specs.Borrow.{Bor}
use Rattle.base_language.specs.Language.State.{Trees}
use Rattle.front_names.specs.GrammarNames.{AreWrittenAt, calls, definitions, first_calls}
use Rattle.front_reader.specs.Reading.{ReadsRules}
use Rattle.front_spanned.specs.Erasure.{rules_without_spans}
use Rattle.front_spanned.specs.Spanned.{SpannedRule}
use Rattle.pest_meta.specs.Spelling.{AreAccepted, HasTrees, complaints_in}

-- the text's trees are read as these rules, which are accepted without their spans; its names are in order,
-- and the builtins are those that it calls, each once, in the order of their first calls
pub record SpellsWithSpans (text : List ℕ) (builtins : List (Bor (List ℕ))) (rules : List SpannedRule)
    : Type 0 where
  pub trees : Trees
  pub of_text : HasTrees text trees
  pub well_named : complaints_in text trees ≡ []
  pub uses : AreWrittenAt (first_calls (definitions text trees) (calls text trees)) builtins
  pub read : ReadsRules text trees rules
  pub accepted : AreAccepted text trees (rules_without_spans rules)

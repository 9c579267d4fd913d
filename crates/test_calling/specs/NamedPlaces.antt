-- The names of the rules of a grammar's text, and their positions.
use Rattle.std.specs.Prelude.{◌≡◌, ℕ, List, map}
use Rattle.std.specs.declared.string.String.{String}
use Rattle.std.specs.declared.alloc.Global.{Global}
use Rattle.base_ast.specs.Ast.{text_of}
use Rattle.base_language.specs.Pieces.LineColumn.{line_column}
use Rattle.base_language.specs.Language.State.{Trees}
use Rattle.base_language.specs.Language.Text.{Text}
use Rattle.front_spanned.specs.Spanned.{SpannedRule}
use Rattle.front_reader.specs.Reading.{ReadsRules}
use Rattle.pest_meta.specs.Spelling.{HasTrees}

-- a rule's name, and its line and column
abbrev pub named_place : SpannedRule → Text × (ℕ × ℕ)
named_place rule = (rule.name, line_column rule.span.text rule.span.start)

-- a name with its line and column, as code has them
abbrev pub named_place_of : String Global × (ℕ × ℕ) → Text × (ℕ × ℕ)
named_place_of named = (text_of named.0, named.1)

-- the text spells rules with these names at these positions, in this order
pub record AreNamedPlaces (text : List ℕ) (places : List (String Global × (ℕ × ℕ))) : Type 0 where
  pub trees : Trees
  pub of_text : HasTrees text trees
  pub rules : List SpannedRule
  pub read : ReadsRules text trees rules
  pub same : map named_place_of places ≡ map named_place rules

-- The rules that a grammar's text is read as.
use Rattle.std.specs.Prelude.{◌≡◌, ◌↔◌, ℕ, List, None}
use Rattle.base_language.specs.Language.Expression.{Grammar}
use Rattle.base_language.specs.Language.State.{Trees}
use Rattle.base_language.specs.declared.grammar.Rule.TheVariants.{grammar_rules}
use Rattle.front_reader.specs.Flaws.{first_flaw}
use Rattle.front_reader.specs.Reading.{ReadsRules}
use Rattle.front_spanned.specs.Erasure.{rules_without_spans}
use Rattle.front_spanned.specs.Spanned.{SpannedRule}
use Rattle.front_grammar.specs.Outcomes.{Spells}

-- a text is read as these rules, with spans or without them
pub record IsReadAs (text : List ℕ) (rules : Grammar) : Type 0 where
  pub trees : Trees
  pub spelled : Spells grammar_rules text trees
  pub spanned : List SpannedRule
  pub read : ReadsRules text trees spanned
  pub flawless : first_flaw text trees ≡ None
  pub same : rules ≡ rules_without_spans spanned

-- two texts are read as the same rules, or both as none
pub record SameRules (text other : List ℕ) : Type 0 where
  pub same : (rules : Grammar) → (IsReadAs text rules ↔ IsReadAs other rules)

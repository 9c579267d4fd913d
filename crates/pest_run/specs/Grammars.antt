-- Grammars that are read once.
use Rattle.std.specs.Prelude.{◌≡◌, ℕ, List, Option, ⊤}
use Rattle.base_ast.specs.Ast.{rules_of}
use Rattle.pest_meta.specs.Opening.{IsOpenError}
use Rattle.pest_meta.specs.WithSpans.{SpellsWithSpans}
use Rattle.front_spanned.specs.Erasure.{rules_without_spans}
use Rattle.front_spanned.specs.Spanned.{SpannedRule}
use Rattle.std.specs.Borrow.{Bor}
use Rattle.pest_meta.specs.declared.opened.OpenError.{OpenError}
use Rattle.pest_run.specs.Properties.{IsPropertyOf}
use Rattle.pest_run.specs.declared.grammars.GrammarRules.{GrammarRules}
use Rattle.pest_run.specs.declared.grammars.Reading.{Reading}
use Rattle.pest_run.specs.declared.grammars.Reading.TheVariants as reading

-- the rules are those that the text spells, and they are accepted
pub record IsReadFrom (grammar : List ℕ) (it : GrammarRules) : Type 0 where
  pub builtins : List (Bor (List ℕ))
  pub spelled : List SpannedRule
  pub spells : SpellsWithSpans grammar builtins spelled
  pub same : rules_of it.rules.value.items ≡ rules_without_spans spelled

-- the text is refused, and this is the property of pest that it calls undefined, if it does
pub record IsRefusedOver (grammar : List ℕ) (property : Option (Bor (List ℕ))) : Type 0 where
  pub error : OpenError
  pub refuses : IsOpenError grammar error
  pub names : IsPropertyOf error property

-- what was read of the text: nothing, its rules, or that it is refused
abbrev pub IsReadingOf : List ℕ → Reading → Type 0
IsReadingOf grammar reading.Nothing = ⊤
IsReadingOf grammar (reading.Accepted it) = IsReadFrom grammar it
IsReadingOf grammar (reading.Refused property) = IsRefusedOver grammar property

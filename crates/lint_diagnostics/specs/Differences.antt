-- Texts on which a rule ends otherwise as pest runs it than as it is written.
use Rattle.std.specs.Prelude.{◌≡◌, ◌≢◌, ℕ, List, IfSome, string_bytes}
use Rattle.std.specs.Borrow.{Bor}
use Rattle.matcher_program.specs.Refusals.{IsReason}
use Rattle.matcher_program.specs.declared.compile.Unfit.{Unfit}
use Rattle.matcher_program.specs.declared.compile.Unfit.TheVariants as unfit
use Rattle.matcher_support.specs.Compiled.{IsCompiled}
use Rattle.matcher_support.specs.Sets.{has_set, is_in_property}
use Rattle.base_ast.specs.Optimized.{optimized_rules_of}
use Rattle.base_ast.specs.declared.optimized.OptimizedRule.{OptimizedRule}
use Rattle.base_language.specs.Language.Expression.{Grammar}
use Rattle.base_language.specs.Language.State.{State, Trees, Success, Failure}
use Rattle.base_language.specs.Language.Text.{Text}
use Rattle.front_spanned.specs.Spanned.{SpannedRule}
use Rattle.matcher_program.specs.Answers.{Has}
use Rattle.lint_diagnostics.specs.declared.comparer.Comparer.{Comparer}
use Rattle.lint_diagnostics.specs.declared.comparer.RunnableForms.{RunnableForms}
use Rattle.lint_diagnostics.specs.declared.difference.Difference.{Difference}
use Rattle.lint_diagnostics.specs.declared.difference.RuleEnd.{RuleEnd}
use Rattle.lint_diagnostics.specs.declared.difference.RuleEnd.TheVariants as rule_end
use Rattle.pest_meta.specs.Spelling.{IsAnswer}
use Rattle.pest_meta.specs.WithSpans.{SpellsWithSpans}
use Rattle.pest_meta.specs.Written.{IsWritten}

-- the text is accepted and spells these rules
abbrev pub IsSpelled : List ℕ → List SpannedRule → Type 0
IsSpelled text rules = (builtins : List (Bor (List ℕ))) × SpellsWithSpans text builtins rules

-- the rule of a name, called at the start of a text, fails, or matches the bytes before this one
abbrev pub EndsAs : Grammar → Text → List ℕ → RuleEnd → Type 0
EndsAs g n text rule_end.Failure = Has g n text is_in_property Failure
EndsAs g n text (rule_end.At end_) =
    (t : State) × (trees : Trees) × (t.position ≡ end_) × Has g n text is_in_property (Success t trees)

-- on the text the rule has one end by the first rules, and another one by the second
pub record Distinguishes (g h : Grammar) (n : Text) (d : Difference) : Type 0 where
  pub first : EndsAs g n (string_bytes d.text) d.written
  pub second : EndsAs h n (string_bytes d.text) d.optimized
  pub other : d.written ≢ d.optimized

-- the rules that the optimizer returns for a grammar's text
pub record AreOptimized (grammar : List ℕ) (rules : Grammar) : Type 0 where
  pub builtins : List (Bor (List ℕ))
  pub answer : List OptimizedRule
  pub answers : IsAnswer grammar builtins answer
  pub same : rules ≡ optimized_rules_of answer

-- on the text the rule has one end as the grammar's text spells it, and another one as it is optimized
pub record ShowsDifference (grammar : List ℕ) (n : Text) (d : Difference) : Type 0 where
  pub written : Grammar
  pub optimized : Grammar
  pub are_written : IsWritten grammar written
  pub are_optimized : AreOptimized grammar optimized
  pub distinguishes : Distinguishes written optimized n d

-- both forms of a grammar's rules, compiled
pub record AreForms (grammar : List ℕ) (forms : RunnableForms) : Type 0 where
  pub first : List OptimizedRule
  pub second : List OptimizedRule
  pub are_written : IsWritten grammar (optimized_rules_of first)
  pub are_optimized : AreOptimized grammar (optimized_rules_of second)
  pub written : IsCompiled first forms.written.items
  pub optimized : IsCompiled second forms.optimized.items

-- rules cannot be run: a name in them is unknown, or a bound of a range is not one character
abbrev pub CannotRun : Grammar → Type 0
CannotRun rules = (why : Unfit) × (why ≢ unfit.Memory) × IsReason has_set rules why

-- why a grammar has not both forms: one of them cannot be run
pub data LacksForms (grammar : List ℕ) : Type 0 where
  as_written : (rules : Grammar) → IsWritten grammar rules → CannotRun rules → LacksForms grammar
  as_optimized : (rules : Grammar) → AreOptimized grammar rules → CannotRun rules → LacksForms grammar

abbrev pub IsComparer : Comparer → Type 0
IsComparer comparer = IfSome comparer.forms (AreForms comparer.grammar.now)

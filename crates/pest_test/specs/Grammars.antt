-- Compiled grammars.
use Rattle.std.specs.Prelude.{ℕ, List, ⊤}
use Rattle.std.specs.Borrow.{Bor}
use Rattle.base_ast.specs.Optimized.{optimized_rules_of}
use Rattle.base_ast.specs.declared.optimized.OptimizedRule.{OptimizedRule}
use Rattle.matcher_support.specs.Compiled.{IsCompiled}
use Rattle.pest_meta.specs.Spelling.{IsAnswer, IsRefusedWith}
use Rattle.pest_meta.specs.Written.{IsWritten}
use Rattle.pest_test.specs.declared.arguments.RuleForm.{RuleForm}
use Rattle.pest_test.specs.declared.arguments.RuleForm.TheVariants as form_is
use Rattle.pest_test.specs.declared.grammars.GrammarError.{GrammarError}
use Rattle.pest_test.specs.declared.grammars.GrammarError.TheVariants as is

-- the rules that the text of a grammar spells, with counted repetitions written out; or those that the
-- optimizer returns for it
abbrev pub AreRulesOf : RuleForm → List ℕ → List OptimizedRule → Type 0
AreRulesOf form_is.Written grammar rules = IsWritten grammar (optimized_rules_of rules)
AreRulesOf form_is.Optimized grammar rules =
    (builtins : List (Bor (List ℕ))) × IsAnswer grammar builtins rules

-- the block of these rules
pub record IsBlockFor (form : RuleForm) (grammar block : List ℕ) : Type 0 where
  pub rules : List OptimizedRule
  pub are : AreRulesOf form grammar rules
  pub compiled : IsCompiled rules block

-- why a grammar is not compiled: an allocation failed, or its text is refused with these errors, or its rules
-- cannot be run
abbrev pub IsGrammarError : List ℕ → GrammarError → Type 0
IsGrammarError grammar is.Memory = ⊤
IsGrammarError grammar (is.Refused errors) = IsRefusedWith grammar errors.items
IsGrammarError grammar is.Unfit = ⊤

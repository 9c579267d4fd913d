-- The rules of a grammar in both forms.
use Rattle.std.proofs.Common.{List, ℕ, Err, IfOk, IfSome, None, Ok, Option, Result, Some, refl}
use Rattle.base_ast.specs.Optimized.{optimized_rules_of}
use Rattle.base_ast.specs.declared.optimized.OptimizedRule.{OptimizedRule}
use Rattle.base_language.specs.Language.Text.{Text}
use Rattle.matcher_support.specs.Compiled.{IsCompiled}
use Rattle.front_optimizer.specs.Passes.{IsOptimized}
use Rattle.front_spanned.specs.Erasure.{rules_without_spans}
use Rattle.front_spanned.specs.Spanned.{SpannedRule}
use Rattle.lint_diagnostics.specs.Differences.{AreForms, AreOptimized, Distinguishes, IsSpelled, ShowsDifference}
use Rattle.lint_diagnostics.specs.declared.comparer.RunnableForms.{RunnableForms}
use Rattle.lint_diagnostics.specs.declared.difference.Difference.{Difference}
use Rattle.pest_meta.proofs.Spelled.{spelled_answer}
use Rattle.pest_meta.specs.Written.{IsWritten}

-- the optimizer's rules
pub optimized_as : (grammar : List ℕ) (read : List SpannedRule) (answer : List OptimizedRule) → IsSpelled grammar read → IsOptimized (rules_without_spans read) (optimized_rules_of answer) → AreOptimized grammar (optimized_rules_of answer)
optimized_as grammar read answer s o = record {
  builtins = s.0;
  answer = answer;
  answers = spelled_answer grammar s.0 read answer s.1 o;
  same = refl;
}

-- both forms
pub both_forms : (grammar : List ℕ) (first second : List OptimizedRule) (forms : RunnableForms) → IsWritten grammar (optimized_rules_of first) → AreOptimized grammar (optimized_rules_of second)
    → IsCompiled first forms.written.items → IsCompiled second forms.optimized.items → AreForms grammar forms
both_forms grammar first second forms w o c d =
    record { first = first; second = second; are_written = w; are_optimized = o; written = c; optimized = d }

-- a difference of the two is one of the grammar's rules
pub shown_by : {E : Type 0} (grammar : List ℕ) (n : Text) (forms : RunnableForms) (result : Result (Option Difference) E) → (f : AreForms grammar forms)
    → IfOk result (λ found. IfSome found (Distinguishes (optimized_rules_of f.first) (optimized_rules_of f.second) n))
    → IfOk result (λ found. IfSome found (ShowsDifference grammar n))
shown_by grammar n forms (Ok (Some d)) f h = record {
  written = optimized_rules_of f.first;
  optimized = optimized_rules_of f.second;
  are_written = f.are_written;
  are_optimized = f.are_optimized;
  distinguishes = h;
}
shown_by grammar n forms (Ok None) f h = tt
shown_by grammar n forms (Err x) f h = tt

-- The texts that the program writes.
use Rattle.std.specs.Prelude.{ℕ, Bool, List, Option, Result, encode_utf8_all}
use Rattle.std.specs.Borrow.{Bor}
use Rattle.std.specs.Io.KnownBytes.{Appends}
use Rattle.base_language.specs.declared.grammar.Rule.{Rule}
use Rattle.base_language.specs.declared.runtime.errors.Error.{Error}
use Rattle.base_ast.specs.Optimized.{optimized_rules_of}
use Rattle.base_ast.specs.declared.optimized.OptimizedRule.{OptimizedRule}
use Rattle.pest_meta.specs.Spelling.{IsAnswer, IsRefusedWith}
use Rattle.pest_meta.specs.ReadsBack.{grammar_text}
pub use Rattle.program_support.specs.Ends.{WritesLine, WritesReport}

-- there is an answer for the text, and the writer's contents grew by its rules, a line each
pub record PrintsAnswer (text : List ℕ) (old new : Option (List ℕ)) : Type 0 where
  pub builtins : List (Bor (List ℕ))
  pub rules : List OptimizedRule
  pub answers : IsAnswer text builtins rules
  pub gained : Appends old new (encode_utf8_all (grammar_text (optimized_rules_of rules)))

-- there is a reason to refuse the text, and its report, for a terminal or not, is the line
pub record ReportsRefusal {X E : Type 0} (is_terminal : Bool) (text : List ℕ) (written : Result X E)
    (old new : Option (List ℕ)) : Type 0 where
  pub errors : List (Error Rule)
  pub reason : IsRefusedWith text errors
  pub tells : WritesReport is_terminal errors written old new

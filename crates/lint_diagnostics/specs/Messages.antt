-- Messages of differences.
use Rattle.std.specs.Prelude.{◌≡◌, ◌⊎◌, ℕ, List, ◌++◌, codes, encode_utf8_all, string_bytes, take}
use Rattle.std.specs.Str.{IsCharBoundary, chars}
use Rattle.base_ast.specs.Printing.{literal}
use Rattle.base_language.specs.Language.Text.{Text}
use Rattle.lint_diagnostics.specs.Differences.{ShowsDifference}
use Rattle.lint_diagnostics.specs.declared.difference.Difference.{Difference}
use Rattle.lint_diagnostics.specs.declared.difference.RuleEnd.{RuleEnd}
use Rattle.lint_diagnostics.specs.declared.difference.RuleEnd.TheVariants as rule_end
use Rattle.program_support.specs.Escapes.{escaped_bytes}

-- a text in double quotes (34), with escapes
abbrev pub quoted : List ℕ → List ℕ
quoted text = encode_utf8_all (literal 34 (chars text))

-- that a rule fails, or which part of a text it matches
abbrev pub end_message : List ℕ → RuleEnd → List ℕ
end_message text rule_end.Failure = codes "fails"
end_message text (rule_end.At end_) = codes "matches " ++ quoted (take end_ text)

-- both ends on a text, with escapes of hidden characters
abbrev pub difference_message : Difference → List ℕ
difference_message d = escaped_bytes (codes "on " ++ quoted (string_bytes d.text) ++ codes " the rule "
    ++ end_message (string_bytes d.text) d.written ++ codes " as written, and "
    ++ end_message (string_bytes d.text) d.optimized ++ codes " as pest runs it")

-- an end is within a character of the text, or behind it
abbrev pub IsCut : List ℕ → RuleEnd → Type 0
IsCut text rule_end.Failure = ⊥
IsCut text (rule_end.At end_) = ¬ (IsCharBoundary text end_)

abbrev pub HasCutEnd : Difference → Type 0
HasCutEnd d = IsCut (string_bytes d.text) d.written ⊎ IsCut (string_bytes d.text) d.optimized

-- a message says of some text on which the rule of a name ends otherwise how it ends
pub record ReportsDifference (grammar : List ℕ) (n : Text) (message : List ℕ) : Type 0 where
  pub difference : Difference
  pub shows : ShowsDifference grammar n difference
  pub same : message ≡ difference_message difference

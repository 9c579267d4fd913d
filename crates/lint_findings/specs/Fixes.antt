-- Fixes of a text's syntax errors.
use Rattle.std.specs.Prelude.{◌≡◌, Bool, true, ℕ, ◌+◌, ◌<◌, ◌≤◌, List, ◌++◌, Option, None, Some, drop, length, string_bytes, take, ⊤}
use Rattle.base_language.specs.Language.State.{Trees}
use Rattle.base_language.specs.declared.grammar.Rule.TheVariants.{grammar_rules}
use Rattle.lint_hints.specs.declared.help.Applicability.{Applicability}
use Rattle.lint_hints.specs.declared.help.Applicability.TheVariants as applicability
use Rattle.lint_hints.specs.declared.help.Fix.{Fix}
use Rattle.front_grammar.specs.Outcomes.{Spells}
use Rattle.front_syntax.specs.Parses.{FailsAt}

-- the text is read as trees of a grammar, or this is the byte of its syntax error
abbrev pub IsErrorOf : List ℕ → Option ℕ → Type 0
IsErrorOf text None = (trees : Trees) × Spells grammar_rules text trees
IsErrorOf text (Some place) = FailsAt grammar_rules text place

-- the next text is the text with the bytes of the fix replaced
pub record IsApplied (text : List ℕ) (fix : Fix) (next : List ℕ) : Type 0 where
  pub ordered : fix.start ≤ fix.end
  pub within : fix.end ≤ length text
  pub replaced : next ≡ take fix.start text ++ (string_bytes fix.replacement ++ drop fix.end text)

-- a byte of the fixed text is `behind` bytes after the replacement, and so far after what was replaced that
-- the error is before it
pub record IsBehind (error : ℕ) (fix : Fix) (place : ℕ) : Type 0 where
  pub behind : ℕ
  pub of_fixed : place ≡ fix.start + length (string_bytes fix.replacement) + behind
  pub further : error < fix.end + behind

-- no error is left, or one that is further on
abbrev pub IsFurther : ℕ → Fix → Option ℕ → Type 0
IsFurther error fix None = ⊤
IsFurther error fix (Some place) = IsBehind error fix place

-- a safe fix may be applied, and an unsafe one if that is asked for
abbrev pub is_allowed : Bool → Applicability → Bool
is_allowed takes applicability.Safe = true
is_allowed takes applicability.Unsafe = takes

-- a text with a syntax error becomes another by a fix, and that one is read again
pub record IsFixed (takes : Bool) (text next : List ℕ) : Type 0 where
  pub error : ℕ
  pub fails : FailsAt grammar_rules text error
  pub fix : Fix
  pub allowed : is_allowed takes fix.applicability ≡ true
  pub applied : IsApplied text fix next
  pub left : Option ℕ
  pub read_again : IsErrorOf next left
  pub further : IsFurther error fix left

-- a given number of fixes, one after another
pub data AreFixed (takes : Bool) (text : List ℕ) : ℕ → List ℕ → Type 0 where
  none : AreFixed takes text 0 text
  more : (count : ℕ) (earlier last : List ℕ) → AreFixed takes text count earlier → IsFixed takes earlier last
      → AreFixed takes text (count + 1) last

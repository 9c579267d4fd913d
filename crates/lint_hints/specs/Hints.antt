-- Fixes.
use Rattle.std.specs.Prelude.{◌≡◌, ℕ, List, string_bytes}
use Rattle.lint_hints.specs.declared.help.Fix.{Fix}

-- the fix replaces these bytes by a text
pub record IsReplacement (start end : ℕ) (replacement : List ℕ) (fix : Fix) : Type 0 where
  pub start_at : fix.start ≡ start
  pub end_at : fix.end ≡ end
  pub written : string_bytes fix.replacement ≡ replacement

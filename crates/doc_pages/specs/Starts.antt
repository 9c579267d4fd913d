-- The rules with which matching starts.
use Rattle.std.specs.Prelude.{ℕ, Bool, List}
use Rattle.base_language.specs.Language.Builtins.{is_one_of}
use Rattle.front_spanned.specs.Spanned.{SpannedRule}
use Rattle.lint_findings.specs.Starts.{names_of, stated_starts}

-- a comment of the text states that matching starts with the rule
abbrev pub is_start : List ℕ → SpannedRule → Bool
is_start text rule = is_one_of (names_of (stated_starts text)) rule.name

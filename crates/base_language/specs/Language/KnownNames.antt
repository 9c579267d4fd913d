-- Rules that call nothing but rules and builtins.
use Rattle.std.specs.Prelude.{◌≡◌, None}
use Rattle.base_language.specs.Language.Builtins.{builtin_of}
use Rattle.base_language.specs.Language.Expression.{Grammar, Ident, rule_of}
use Rattle.base_language.specs.Language.Text.{Text}
use Rattle.base_language.specs.Language.WellFormed.{InSomeRule}

-- a name in a body is that of a rule, or of a builtin
abbrev pub HasKnownNames : Grammar → Type 0
HasKnownNames g = (n : Text) → InSomeRule g (Ident n) → rule_of g n ≡ None → builtin_of n ≡ None → ⊥

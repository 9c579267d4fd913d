-- Helps of errors.
use Rattle.std.specs.Prelude.{◌≡◌, ◌++◌, IfSome, IsSomeAnd, Option, codes, string_bytes}
use Rattle.lint_findings.specs.declared.codes.Code.{Code}
use Rattle.lint_findings.specs.declared.codes.Code.TheVariants as code
use Rattle.lint_hints.specs.declared.help.Help.{Help}

-- a help suggests the name that its fix writes
abbrev pub IsSuggestion : Help → Type 0
IsSuggestion help = IsSomeAnd help.fix (λ fix.
    string_bytes help.message ≡ codes "did you mean `" ++ (string_bytes fix.replacement ++ codes "`?"))

-- the help for an undefined name is a suggestion; helps for other codes are tested by examples/lint
abbrev pub IsHelpOf : Code → Option Help → Type 0
IsHelpOf c help = c ≡ code.UndefinedRule → IfSome help IsSuggestion

-- Remedies.
use Rattle.std.specs.Prelude.{◌≡◌, ◌&&◌, ◌++◌, [], ℕ, List, Bool, false, true, Option, Some, None, codes, find, length, nat_le, not, option_and_then, reverse, string_bytes, if◌then◌else◌}
use Rattle.lint_findings.specs.declared.codes.Code.{Code}
use Rattle.lint_findings.specs.declared.codes.Code.TheVariants as code
use Rattle.lint_findings.specs.declared.diagnostic.Diagnostic.{Diagnostic}
use Rattle.lint_hints.specs.declared.help.Applicability.{Applicability}
use Rattle.lint_hints.specs.declared.help.Applicability.TheVariants as applicability
use Rattle.lint_hints.specs.declared.help.Fix.{Fix}
use Rattle.lint_hints.specs.declared.help.Help.{Help}
use Rattle.server_requests.specs.Shown.{shown}
use Rattle.server_requests.specs.declared.context.Context.{Context}
use Rattle.server_symbols.specs.Tokens.{is_comment, is_sign}
use Rattle.server_symbols.specs.declared.tokens.Token.{Token}
use Rattle.server_features.specs.declared.remedies.Remedy.{Remedy}

-- a remedy replaces these bytes by a text, and has a title
pub record Replaces (start end : ℕ) (replacement title : List ℕ) (remedy : Remedy) : Type 0 where
  pub start_at : remedy.extent.start ≡ start
  pub end_at : remedy.extent.end ≡ end
  pub written : string_bytes remedy.replacement ≡ replacement
  pub titled : string_bytes remedy.title ≡ title

abbrev pub is_safe : Applicability → Bool
is_safe applicability.Safe = true
is_safe applicability.Unsafe = false

-- a remedy replaces what a fix does, by the same text and under its title, and is preferred if it is safe
abbrev pub AppliesFix : Fix → Remedy → Type 0
AppliesFix fix remedy =
    Replaces fix.start fix.end (string_bytes fix.replacement) (string_bytes fix.title) remedy
    × (remedy.is_preferred ≡ is_safe fix.applicability)

-- the text of the bytes of a diagnostic
abbrev pub part_of : Context → Diagnostic → List ℕ
part_of context diagnostic =
    shown context.text.now (record { start = diagnostic.start; end = diagnostic.end })

-- a remedy defines a rule at the end of a document
abbrev pub Defines : Context → List ℕ → Remedy → Type 0
Defines context name remedy = Replaces (length context.text.now) (length context.text.now)
    (codes "\n" ++ (name ++ (codes " = { \"" ++ (name ++ codes "\" }\n"))))
    (codes "Define the rule `" ++ (name ++ codes "`")) remedy × (remedy.is_preferred ≡ false)

abbrev pub is_before : ℕ → Token → Bool
is_before offset token = nat_le token.end offset && not (is_comment token.class)

-- the last token before an offset that is no comment
abbrev pub last_before : ℕ → List Token → Option Token
last_before offset tokens = find (is_before offset) (reverse tokens)

abbrev pub if_bar : Token → Option Token
if_bar token = if is_sign 124 token.class then Some token else None

-- the last token before an offset that is no comment, if it is a `|`
abbrev pub bar_before : ℕ → List Token → Option Token
bar_before offset tokens = option_and_then if_bar (last_before offset tokens)

-- a remedy removes an alternative with the `|` before it; there is none for the first alternative
abbrev pub Removes : Diagnostic → Option Token → Option Remedy → Type 0
Removes diagnostic None remedy = remedy ≡ None
Removes diagnostic (Some bar) None = ⊥
Removes diagnostic (Some bar) (Some remedy) =
    Replaces bar.start diagnostic.end [] (codes "Remove this alternative") remedy
    × (remedy.is_preferred ≡ false)

abbrev pub IsRemedyByCode : Context → Diagnostic → Code → Option Remedy → Type 0
IsRemedyByCode context diagnostic code.UndefinedRule None = ⊥
IsRemedyByCode context diagnostic code.UndefinedRule (Some remedy) =
    Defines context (part_of context diagnostic) remedy
IsRemedyByCode context diagnostic code.Unreachable remedy =
    Removes diagnostic (bar_before diagnostic.start context.tokens.now) remedy
IsRemedyByCode context diagnostic _ remedy = remedy ≡ None

abbrev pub IsRemedyByFix : Context → Diagnostic → Option Fix → Option Remedy → Type 0
IsRemedyByFix context diagnostic None remedy =
    IsRemedyByCode context diagnostic diagnostic.code remedy
IsRemedyByFix context diagnostic (Some fix) None = ⊥
IsRemedyByFix context diagnostic (Some fix) (Some remedy) = AppliesFix fix remedy

-- the remedy of a diagnostic: the fix of its help, if it has one, or else that of its code
abbrev pub IsRemedyBy : Context → Diagnostic → Option Help → Option Remedy → Type 0
IsRemedyBy context diagnostic None remedy = IsRemedyByCode context diagnostic diagnostic.code remedy
IsRemedyBy context diagnostic (Some help) remedy =
    IsRemedyByFix context diagnostic help.fix remedy

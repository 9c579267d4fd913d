-- The warnings of documents.
use Rattle.std.specs.Prelude.{◌≡◌, ◌⊎◌, List, All, Any}
use Rattle.std.specs.Global.{Vec}
use Rattle.std.specs.List.{Contains}
use Rattle.base_language.specs.Pieces.Saying.{Span, written}
use Rattle.front_spanned.specs.Spanned.{SpannedRule}
use Rattle.lint_findings.specs.declared.codes.Code.{Code}
use Rattle.lint_findings.specs.declared.codes.Code.TheVariants as code
use Rattle.lint_warnings.specs.Choices.{unreachable_alternatives}
use Rattle.lint_warnings.specs.Suspects.{suspects}
use Rattle.lint_warnings.specs.declared.suspects.Suspect.TheVariants as suspect
use Rattle.doc_pages.specs.declared.warnings.RuleWarning.{RuleWarning}

-- a warning has this code, and the text of one of some pieces
pub record SaysOfOne (kind : Code) (pieces : List Span) (warning : RuleWarning) : Type 0 where
  pub piece : Span
  pub among : Contains pieces piece
  pub text : warning.text.now ≡ written piece
  pub says : warning.code ≡ kind

-- a warning of an alternative of rules that is never taken, or of a range that matches nothing
abbrev pub IsWarning : List SpannedRule → RuleWarning → Type 0
IsWarning rules warning = SaysOfOne code.Unreachable (unreachable_alternatives rules) warning
    ⊎ SaysOfOne code.ReversedRange (suspects suspect.ReversedRange rules) warning

-- lists of such warnings
abbrev pub AreWarnings : List SpannedRule → List (Vec RuleWarning) → Type 0
AreWarnings rules lists = All (λ warnings. All (IsWarning rules) warnings.items) lists

-- what is said of pieces is a warning of these rules
abbrev pub AllSaid : Code → List Span → List SpannedRule → Type 0
AllSaid kind pieces rules = (warning : RuleWarning) → SaysOfOne kind pieces warning → IsWarning rules warning

-- a warning of a code is of a piece
abbrev pub Says : Code → Span → RuleWarning → Type 0
Says kind piece warning = (warning.text.now ≡ written piece) × (warning.code ≡ kind)

-- a warning of one of some lists is
abbrev pub Warns : List (Vec RuleWarning) → Code → Span → Type 0
Warns lists kind piece = Any (λ warnings. Any (Says kind piece) warnings.items) lists

-- all that some lists warn of, others warn of, too
abbrev pub KeepsWarnings : List (Vec RuleWarning) → List (Vec RuleWarning) → Type 0
KeepsWarnings old new = (kind : Code) (piece : Span) → Warns old kind piece → Warns new kind piece

-- some lists warn of each alternative of rules that is never taken, and of each range that matches nothing
pub record HasAllWarnings (rules : List SpannedRule) (lists : List (Vec RuleWarning)) : Type 0 where
  pub alternatives : All (Warns lists code.Unreachable) (unreachable_alternatives rules)
  pub ranges : All (Warns lists code.ReversedRange) (suspects suspect.ReversedRange rules)

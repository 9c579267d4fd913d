-- Skipped blanks by the relation of matching.
use Rattle.std.specs.Prelude.{◌≡◌, true, Bool}
use Rattle.base_language.specs.Language.Expression.{Expression, Grammar, Rep}
use Rattle.base_language.specs.Language.Meaning.{Does, Matches, Skipping, Turns, body_mode}
use Rattle.base_language.specs.Language.State.{Classes, NonAtomicMode, AtomicMode, State, Trees, None', Outcome, Success}
use Rattle.base_language.specs.Language.Text.{Text}
use Rattle.front_spanned.specs.Erasure.{rule_without_spans}
use Rattle.front_spanned.specs.Spanned.{SpannedRule}
use Rattle.lint_warnings.specs.Skipping.{skips}

-- a rule that skips blanks runs in the mode that skips them, where its caller does
abbrev pub SkippingRuleIsNonAtomic : Type 0
SkippingRuleIsNonAtomic = (f : Text → Bool) (r : SpannedRule) → skips f r ≡ true
    → body_mode (rule_without_spans r) NonAtomicMode ≡ NonAtomicMode

-- in that mode a turn of a repetition begins where the blanks after the turn before it end
abbrev pub TurnsSkipBlanks : Type 0
TurnsSkipBlanks = (g : Grammar) (classes : Classes) (e : Expression) (s t u v w : State) (us vs ws xs : Trees)
    → Matches g classes e NonAtomicMode s (Success t us)
    → Does g classes (Skipping NonAtomicMode) t (Success u vs)
    → Matches g classes e NonAtomicMode u (Success v ws)
    → Does g classes (Turns NonAtomicMode e) v (Success w xs)
    → (zs : Trees) × Matches g classes (Rep e) NonAtomicMode s (Success w zs)

-- in an atomic rule nothing is skipped
abbrev pub AtomicRulesSkipNothing : Type 0
AtomicRulesSkipNothing = (g : Grammar) (classes : Classes) (s : State) (o : Outcome)
    → Does g classes (Skipping AtomicMode) s o → o ≡ Success s None'

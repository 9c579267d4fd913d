-- Suspect nodes by the relation of matching.
use Rattle.std.specs.Prelude.{◌≡◌, true, ℕ, None}
use Rattle.base_language.specs.Language.Expression.{Grammar, rule_of}
use Rattle.base_language.specs.Language.Expression as bare
use Rattle.base_language.specs.Language.Meaning.{Matches}
use Rattle.base_language.specs.Language.Places.{IsStateIn}
use Rattle.base_language.specs.Language.State.{Classes, Mode, IsRuleMode, State, Trees, Success, Failure}
use Rattle.base_language.specs.Language.Text.{Text}
use Rattle.front_names.specs.CharSets.{set_name}
use Rattle.front_names.specs.declared.char_set.CharSet.TheVariants.{Any}
use Rattle.front_spanned.specs.Erasure.{without_spans}
use Rattle.front_spanned.specs.Spanned.{Span, Spanned, One, PosPred, Opt, RepMinMax}
use Rattle.lint_warnings.specs.Laws.{IsSameEverywhere}
use Rattle.lint_warnings.specs.Suspects.{has_reversed_count, is_idle_test, is_unmatchable}

-- a count whose first number is above its last does what the last alone does
abbrev pub ReversedCountIsExact : Type 0
ReversedCountIsExact = (span : Span) (x : Spanned) (m n : ℕ)
    → has_reversed_count (One span (RepMinMax m n) x) ≡ true
    → IsSameEverywhere (without_spans (One span (RepMinMax m n) x)) (bare.RepExact (without_spans x) n)

-- an idle test fails nowhere
abbrev pub IdleTestNeverFails : Type 0
IdleTestNeverFails = (span : Span) (x : Spanned) → is_idle_test (One span PosPred x) ≡ true
    → (g : Grammar) (classes : Classes) (m : Mode) (s : State)
    → Matches g classes (without_spans (One span PosPred x)) m s Failure → ⊥

-- an idle option does what its operand does
abbrev pub IdleOptionChangesNothing : Type 0
IdleOptionChangesNothing = (span : Span) (x : Spanned) → is_idle_test (One span Opt x) ≡ true
    → IsSameEverywhere (without_spans (One span Opt x)) (without_spans x)

-- an unmatchable node succeeds nowhere in a text, in the body of no rule, where no rule is called `ANY`
abbrev pub UnmatchableNeverSucceeds : Type 0
UnmatchableNeverSucceeds = (x : Spanned) → is_unmatchable x ≡ true
    → (g : Grammar) → rule_of g (set_name Any) ≡ None → (classes : Classes) (m : Mode) → IsRuleMode m
    → (text : Text) (s t : State) (us : Trees) → IsStateIn text s
    → Matches g classes (without_spans x) m s (Success t us) → ⊥

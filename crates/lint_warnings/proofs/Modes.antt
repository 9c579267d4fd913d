-- The modes of rules that skip blanks.
use Rattle.std.proofs.Common.{◌≡◌, Bool, true, false, not, ◌&&◌, ◌||◌, refl, bytes_eq}
use Rattle.base_language.specs.Language.Expression.{RuleType, Normal, Silent, Atomic, CompoundAtomic, NonAtomic, Grammar, whitespace, comment}
use Rattle.base_language.specs.Language.Meaning.{Does, Skipping, atomic, body_mode, mode_in}
use Rattle.base_language.specs.Language.State.{Classes, NonAtomicMode, AtomicMode, State, None', Outcome, Success}
use Rattle.base_language.specs.Language.Text.{Text}
use Rattle.front_spanned.specs.Erasure.{rule_without_spans}
use Rattle.front_spanned.specs.Spanned.{SpannedRule}
use Rattle.lint_warnings.specs.Rules.{needs_no_call}
use Rattle.lint_warnings.specs.Skipping.{skips, skips_by_type}

mode_by_type : (t : RuleType) (blank called : Bool) → (not blank && skips_by_type t called) ≡ true → mode_in t blank NonAtomicMode ≡ NonAtomicMode
mode_by_type t true called h = cc
mode_by_type Normal false called h = refl
mode_by_type Silent false called h = refl
mode_by_type Atomic false called h = cc
mode_by_type CompoundAtomic false called h = cc
mode_by_type NonAtomic false called h = refl

pub skipping_mode : (f : Text → Bool) (r : SpannedRule) → skips f r ≡ true → body_mode (rule_without_spans r) NonAtomicMode ≡ NonAtomicMode
unfolding whitespace comment
skipping_mode f r h = mode_by_type r.type_of (needs_no_call r.name) (f r.name) h

pub nothing_skipped : (g : Grammar) (classes : Classes) (s : State) (o : Outcome) → Does g classes (Skipping AtomicMode) s o → o ≡ Success s None'
nothing_skipped g classes s _ atomic = refl

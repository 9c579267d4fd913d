-- The characters with which forms begin.
use Rattle.std.specs.Prelude.{◌≡◌, ◌<◌, ◌++◌, ◌||◌, ℕ, Bool, true, false, List, Option, None, IfSome, get_or, length, max}
use Rattle.base_language.specs.Language.Expression.{Expression, Ident, Grammar}
use Rattle.base_language.specs.Language.FurthestFailure.{furthest, place_of}
use Rattle.base_language.specs.Language.Meaning.{Does, Run, Skipping, Task}
use Rattle.base_language.specs.Language.Text.{Text}
use Rattle.base_language.specs.Language.State.{AtomicMode, Between, Classes, CompoundAtomicMode, Failure, Mode, NonAtomicMode, None', Outcome, State, Success}
use Rattle.matcher_code.specs.Laid.{FailsOutside, Misses, IsSilentUnless}
use Rattle.matcher_program.specs.declared.form.Program.{Program}
use Rattle.matcher_program.specs.declared.form.ProgramRule.{ProgramRule}
use Rattle.matcher_program.specs.Programs.{Fits}
use Rattle.matcher_sets.specs.declared.first_sets.FirstSet.{FirstSet}
use Rattle.matcher_sets.specs.declared.first_sets.FirstSets.{FirstSets}
use Rattle.matcher_sets.specs.Forms.{grammar_in, said}

-- a success that takes nothing, or a failure
abbrev pub nothing_taken : Bool → State → Outcome
nothing_taken true s = Success s None'
nothing_taken false s = Failure

-- where no character of the ranges is next, the task takes nothing, and records a failure there or none
abbrev pub TakesNothing : Grammar → Classes → Task → List (ℕ × ℕ) → (empty noted : Bool) → Type 0
TakesNothing g classes k ranges empty noted = (s : State) → Misses ranges s.rest
    → (d : Does g classes k s (nothing_taken empty s)) × (furthest d ≡ place_of noted s Failure)
    × IsSilentUnless noted d

-- so it is of an expression in a mode, where properties have the sets of the program
pub record HasFirstSet (p : Program) (m : Mode) (e : Expression) (h : FirstSet) : Type 0 where
  pub takes : (classes : Classes) → Fits p.properties.items classes
      → TakesNothing (grammar_in p) classes (Run m e) h.ranges.items h.empty h.noted

-- so it is of an expression with the skipping behind it, which take nothing then
pub record HasFront (p : Program) (m : Mode) (e : Expression) (h : FirstSet) : Type 0 where
  pub takes : (classes : Classes) → Fits p.properties.items classes
      → (s : State) → Misses h.ranges.items s.rest
      → (d : Does (grammar_in p) classes (Run m e) s (Success s None'))
      × ((k : Does (grammar_in p) classes (Skipping m) s (Success s None'))
      × (max (furthest d) (furthest k) ≡ place_of h.noted s Failure)
      × IsSilentUnless h.noted d × IsSilentUnless h.noted k)

-- so it is of the implicit skipping in NonAtomic
pub record IsTriviaFirstSet (p : Program) (h : FirstSet) : Type 0 where
  pub takes : (classes : Classes) → Fits p.properties.items classes
      → TakesNothing (grammar_in p) classes (Skipping NonAtomicMode) h.ranges.items true h.noted

-- so a call of a rule of the implicit skipping fails there, and without a rule of that name everywhere
pub record IsSkipFirstSet (p : Program) (x : Text) (h : FirstSet) : Type 0 where
  pub fails : (classes : Classes) → Fits p.properties.items classes
      → FailsOutside (grammar_in p) classes (Run Between (Ident x)) h.ranges.items h.noted

-- a FIRST set has the characters of two, and is the second where none of them is next
pub record IsJoin (first second first_set : FirstSet) : Type 0 where
  pub ranges : first_set.ranges.items ≡ first.ranges.items ++ second.ranges.items
  pub empty : first_set.empty ≡ second.empty
  pub noted : first_set.noted ≡ (first.noted || second.noted)

-- a FIRST set is that of a call of a body that takes something where it succeeds
pub record IsCall (body : FirstSet) (counts : Bool) (first_set : FirstSet) : Type 0 where
  pub takes : body.empty ≡ false
  pub fails : first_set.empty ≡ false
  pub ranges : first_set.ranges.items ≡ body.ranges.items
  pub noted : first_set.noted ≡ (counts || body.noted)

-- so it is of the bodies of rules, where a FIRST set is known
abbrev pub AreFirstSetsIn : Program → Mode → List (Option FirstSet) → Type 0
AreFirstSetsIn p m first_sets = (i : ℕ) (d : ProgramRule) → i < length p.rules.items
    → IfSome (get_or first_sets i None) (HasFirstSet p m (said p (get_or p.rules.items i d).body))

pub record AreFirstSets (p : Program) (first_sets : FirstSets) : Type 0 where
  pub non_atomic : AreFirstSetsIn p NonAtomicMode first_sets.non_atomic.items
  pub atomic : AreFirstSetsIn p AtomicMode first_sets.atomic.items
  pub compound_atomic : AreFirstSetsIn p CompoundAtomicMode first_sets.compound_atomic.items
  pub trivia : IfSome first_sets.trivia (IsTriviaFirstSet p)

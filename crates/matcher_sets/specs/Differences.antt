-- Ranges of forms that match one character, or that take some where one of these is next.
use Rattle.std.specs.Prelude.{◌≡◌, ◌⊎◌, ℕ, suc, Bool, true, List, nat_le, if◌then◌else◌}
use Rattle.base_language.specs.Language.Matching.{character_outcome, starts_in}
use Rattle.base_language.specs.Language.Meaning.{Run}
use Rattle.base_language.specs.Language.State.{Classes, Failure, None', State, Success}
use Rattle.matcher_code.specs.Lists.{CodeLists}
use Rattle.matcher_code.specs.Failures.{in_silence}
use Rattle.matcher_code.specs.Sets.{IsSetOf}
use Rattle.matcher_code.specs.Laid.{HasOutcome, TakesSome}
use Rattle.matcher_program.specs.declared.form.Form.{Form}
use Rattle.matcher_program.specs.declared.form.Program.{Program}
use Rattle.matcher_program.specs.Programs.{Fits, is_set}
use Rattle.matcher_sets.specs.declared.modes.Atomicity.{Atomicity}
use Rattle.matcher_sets.specs.Modes.{mode_of}
use Rattle.matcher_sets.specs.Ranges.{Adds, Covers}
use Rattle.matcher_sets.specs.Forms.{IsBoundIn, grammar_in, said}

-- the character is below another, or above it
abbrev pub is_below : ℕ → ℕ → Bool
is_below from c = nat_le (suc c) from

abbrev pub is_above : ℕ → ℕ → Bool
is_above to c = nat_le (suc to) c

-- two forms are the sides of a choice, in one order or the other
abbrev pub AreSides : (left right one other : Form) → Type 0
AreSides left right one other = (one ≡ right) × (other ≡ left) ⊎ (one ≡ left) × (other ≡ right)

-- a form has the expression of a set
pub record IsIncludedIn (p : Program) (f set : Form) : Type 0 where
  pub one : is_set set ≡ true
  pub bound : IsBoundIn p set
  pub same : said p f ≡ said p set

abbrev pub IsIncluded : Form → Form → Type 0
IsIncluded f set = (p : Program) → IsBoundIn p f → IsIncludedIn p f set

-- a set of a program has these characters
pub record HasSet (code : CodeLists) (set : ℕ) (characters : ℕ → Bool) : Type 0 where
  pub ranges : List (ℕ × ℕ)
  pub is : IsSetOf code set ranges
  pub covers : Covers ranges characters

-- a form matches one character of a set; or it takes some where one is next, and fails elsewhere; or it fails
-- there, and else matches nothing
abbrev pub MatchesOne : Program → Classes → Form → (ℕ → Bool) → Type 0
MatchesOne p classes f set = (m : Atomicity)
    → HasOutcome (grammar_in p) classes (Run (mode_of m) (said p f)) (character_outcome set) in_silence

abbrev pub BeginsWith : Program → Classes → Form → (ℕ → Bool) → Type 0
BeginsWith p classes f set = (m : Atomicity) (s : State)
    → TakesSome (grammar_in p) classes (Run (mode_of m) (said p f)) s set

abbrev pub RefusesOne : Program → Classes → Form → (ℕ → Bool) → Type 0
RefusesOne p classes f set = (m : Atomicity) → HasOutcome (grammar_in p) classes
    (Run (mode_of m) (said p f)) (λ s. if starts_in set s.rest then Failure else Success s None') in_silence

-- some set has the characters of the ranges, or those that are added to ranges
pub record ByRanges (P : (ℕ → Bool) → Type 0) (ranges : List (ℕ × ℕ)) : Type 0 where
  pub characters : ℕ → Bool
  pub covers : Covers ranges characters
  pub holds : P characters

pub record ByMore (P : (ℕ → Bool) → Type 0) (old new : List (ℕ × ℕ)) : Type 0 where
  pub characters : ℕ → Bool
  pub adds : Adds old new characters
  pub holds : P characters

-- so it is of a form, where properties have the sets of the program
abbrev pub HasRanges : Program → Form → List (ℕ × ℕ) → Type 0
HasRanges p f ranges = (classes : Classes) → Fits p.properties.items classes
    → ByRanges (MatchesOne p classes f) ranges

abbrev pub AddsForm : Program → Form → List (ℕ × ℕ) → List (ℕ × ℕ) → Type 0
AddsForm p f old new = (classes : Classes) → Fits p.properties.items classes
    → ByMore (MatchesOne p classes f) old new

abbrev pub HasFirsts : Program → Form → List (ℕ × ℕ) → Type 0
HasFirsts p f ranges = (classes : Classes) → Fits p.properties.items classes
    → ByRanges (BeginsWith p classes f) ranges

abbrev pub AddsFirsts : Program → Form → List (ℕ × ℕ) → List (ℕ × ℕ) → Type 0
AddsFirsts p f old new = (classes : Classes) → Fits p.properties.items classes
    → ByMore (BeginsWith p classes f) old new

abbrev pub HasRefused : Program → Form → List (ℕ × ℕ) → Type 0
HasRefused p f ranges = (classes : Classes) → Fits p.properties.items classes
    → ByRanges (RefusesOne p classes f) ranges

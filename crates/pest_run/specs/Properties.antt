-- Unicode properties that pest has, and this front end has not.
use Rattle.std.specs.Prelude.{◌≡◌, ◌⊎◌, ◌<◌, Any, Bool, ℕ, List, ◌++◌, None, Option, Result, Some, codes, false, get_or, length, true}
use Rattle.std.specs.Borrow.{Bor}
use Rattle.base_language.specs.Pieces.Saying.{piece_of, written}
use Rattle.front_names.specs.declared.findings.NameFinding.{NameFinding}
use Rattle.front_names.specs.declared.messages.NameProblem.{NameProblem}
use Rattle.front_names.specs.declared.messages.NameProblem.TheVariants.{Undefined}
use Rattle.lint_hints.specs.Properties.{is_pest_property}
use Rattle.pest_meta.specs.declared.opened.OpenError.{OpenError}
use Rattle.pest_meta.specs.declared.opened.OpenError.TheVariants as error_is
use Rattle.pest_run.specs.Written.{WritesLine}

-- a name is called undefined, and is a property that pest has
abbrev pub is_missing_property : NameProblem → List ℕ → Bool
is_missing_property Undefined name = is_pest_property name
is_missing_property problem name = false

abbrev pub is_missing : NameFinding → Bool
is_missing finding = is_missing_property finding.problem (written (piece_of finding.span))

-- a finding is of such a name
abbrev pub IsMissing : NameFinding → Bor (List ℕ) → Type 0
IsMissing finding name = (is_missing finding ≡ true) × (written (piece_of finding.span) ≡ name.now)

-- the name of such a finding; none if there is none
abbrev pub IsPropertyIn : List NameFinding → Option (Bor (List ℕ)) → Type 0
IsPropertyIn findings None =
    (k : ℕ) (d : NameFinding) → k < length findings → is_missing (get_or findings k d) ≡ false
IsPropertyIn findings (Some name) = Any (λ finding. IsMissing finding name) findings

-- such a property of the names for which a grammar is refused; none if it is refused for anything else
abbrev pub IsPropertyOf : OpenError → Option (Bor (List ℕ)) → Type 0
IsPropertyOf (error_is.Names findings) property = IsPropertyIn findings.items property
IsPropertyOf error property = property ≡ None

-- that this front end does not have a property
abbrev pub property_text : List ℕ → List ℕ
property_text name =
    codes "note: this front end does not have the Unicode property " ++ name ++ codes "; pest does"

-- the line names the property
pub record NamesProperty {X E : Type 0} (property : Option (List ℕ)) (written : Result X E)
    (old new : Option (List ℕ)) : Type 0 where
  pub name : List ℕ
  pub given : property ≡ Some name
  pub line : WritesLine (property_text name) written old new

-- the writer is the same, or the line names the property
abbrev pub TellsProperty : {X E : Type 0} → Option (List ℕ) → Type 0 → Result X E
    → Option (List ℕ) → Option (List ℕ) → Type 0
TellsProperty property same written old new = same ⊎ NamesProperty property written old new

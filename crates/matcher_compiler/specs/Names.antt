-- Numbers of rules by their names.
use Rattle.std.specs.Prelude.{◌≡◌, ◌<◌, ◌⊎◌, ℕ, suc, List, [], ◌∷◌, ⊤, Bool, true, false, Option, Some, None, get_or, length}
use Rattle.base_language.specs.Language.Text.{Text}
use Rattle.base_language.specs.Language.Expression.{Grammar, last_place}
use Rattle.base_language.specs.Language.FurthestFailure.{is_eoi}
use Rattle.matcher_program.specs.declared.form.ProgramRule.{ProgramRule}
use Rattle.matcher_program.specs.Programs.{grammar_of, name_at, names_of}

-- an index, or else a count for `EOI`, and one more for all other names
abbrev pub or_end : Option ℕ → Bool → ℕ → ℕ
or_end (Some i) b n = i
or_end None true n = n
or_end None false n = suc n

-- the number of a name: the index of the last rule of that name; the number of rules for `EOI`, if no rule
-- has that name; one more for all other names
abbrev pub number_in : Grammar → Text → ℕ
number_in g n = or_end (last_place g n) (is_eoi n) (length g)

-- the program rule is the last one of its name
abbrev pub IsLast : List ProgramRule → ℕ → Type 0
IsLast program_rules i = last_place (grammar_of program_rules) (name_at (names_of program_rules) i) ≡ Some i

-- for each program rule the index of the last program rule of its name
pub record AreLast (program_rules : List ProgramRule) (lasts : List ℕ) : Type 0 where
  pub long : length lasts ≡ length program_rules
  pub last : (i : ℕ) → i < length program_rules
      → last_place (grammar_of program_rules) (name_at (names_of program_rules) i) ≡ Some (get_or lasts i 0)

-- a rule has the name, or else it is `EOI`
abbrev pub HasNumber : Grammar → Text → Type 0
HasNumber g n = ((i : ℕ) × (last_place g n ≡ Some i)) ⊎ ((last_place g n ≡ None) × (is_eoi n ≡ true))

abbrev pub HaveNumbers : Grammar → List Text → Type 0
HaveNumbers g [] = ⊤
HaveNumbers g (n ∷ ns) = HasNumber g n × HaveNumbers g ns

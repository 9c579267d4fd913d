-- The rules that are expected where a text does not match a rule.
use Rattle.std.specs.Prelude.{◌≡◌, ℕ, List, [], ◌∷◌, Bool, false, ◌||◌, filter, bytes_eq}
use Rattle.base_language.specs.Language.Expected.{expected}
use Rattle.base_language.specs.Language.State.{Trees, State, Success, Failure, Classes}
use Rattle.base_language.specs.Language.Text.{Text}
use Rattle.base_language.specs.Pieces.MetaRules.{name_of, meta_rules}
use Rattle.base_language.specs.declared.grammar.Rule.{Rule}
use Rattle.base_language.specs.declared.grammar.Rule.TheVariants as is
use Rattle.front_code.specs.Numbers.{number_of}
use Rattle.front_grammar.specs.Outcomes.{Recognizes}
use Rattle.matcher_code.specs.Steps.{is_among}

-- whether the rule's name is among these
abbrev pub is_named : List Text → Rule → Bool
is_named [] r = false
is_named (n ∷ ns) r = bytes_eq n (name_of r) || is_named ns r

-- `EOI` and the rules of the meta-grammar, in its order, as far as they are named, each once
abbrev pub rules_named : List Text → List Rule
rules_named names = filter (is_named names) (is.EOI ∷ meta_rules)

-- nothing is expected if the text begins with a match of the rule
abbrev pub ExpectsNothing : Rule → List ℕ → List Rule → Type 0
ExpectsNothing rule text rules = (classes : Classes) (t : State) (us : Trees)
    → Recognizes rule text classes (Success t us) → rules ≡ []

-- the rules are those that are expected at the furthest position, where the rule fails
abbrev pub AreExpected : Rule → List ℕ → List Rule → Type 0
AreExpected rule text rules = (classes : Classes)
    → (d : Recognizes rule text classes Failure) → rules ≡ rules_named (expected d)

-- whether the number of the rule is among these
abbrev pub is_numbered : List ℕ → Rule → Bool
is_numbered numbers r = is_among numbers (number_of (name_of r))

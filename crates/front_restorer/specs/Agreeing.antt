-- Grammars for which the two meanings of failure agree.
use Rattle.std.specs.Prelude.{codes}
use Rattle.base_language.specs.Language.Text.{Text}
use Rattle.base_language.specs.Language.Expression.{Ident, Grammar}
use Rattle.base_language.specs.Language.State.{Classes, Mode, State}
use Rattle.base_language.specs.Language.LooseMeaning.{SameEndings}
use Rattle.base_language.specs.Language.WellFormed.{IsSkipped, Reaches}

-- `WHITESPACE` and `COMMENT` reach no `POP` and no `POP_ALL`, directly or by way of other rules
pub record WrappersSuffice (g : Grammar) : Type 0 where
  pub no_pop : (n : Text) → IsSkipped n → Reaches g n (codes "POP") → ⊥
  pub no_pop_all : (n : Text) → IsSkipped n → Reaches g n (codes "POP_ALL") → ⊥

-- every call ends alike in both meanings: from every state and in every mode the call succeeds with the
-- same state and trees, and fails where it fails
abbrev pub AgreesLoosely : Grammar → Type 0
AgreesLoosely g = (classes : Classes) (n : Text) (m : Mode) (s : State) → SameEndings g classes (Ident n) m s

-- A repeated alternative fails where the first one fails.
use Rattle.std.proofs.Common.{◌≡◌, List, [], ◌∷◌, true, inl, inr, map, subst}
use Rattle.std.specs.List.{AllByRecursion}
use Rattle.std.proofs.lemmas.Bool.{or_cases}
use Rattle.base_language.specs.Language.Expression.{Expression, Grammar}
use Rattle.base_language.specs.Language.Meaning.{Matches}
use Rattle.base_language.specs.Language.State.{Classes, Mode, State, Failure}
use Rattle.base_language.specs.Rewritings.Equality.{expression_eq, expression_eq-Decides}
use Rattle.lint_patterns.specs.Duplicates.{is_among}
use Rattle.front_spanned.specs.Erasure.{without_spans}
use Rattle.front_spanned.specs.Spanned.{Spanned}

pub fails_too : (g : Grammar) (classes : Classes) (m : Mode) (s : State) (earlier : List Spanned) (e : Expression) → is_among earlier e ≡ true
    → AllByRecursion (λ x. Matches g classes x m s Failure) (map without_spans earlier) → Matches g classes e m s Failure
fails_too g classes m s [] e h k = cc
fails_too g classes m s (x ∷ xs) e h k = elim (or_cases (expression_eq (without_spans x) e) (is_among xs e) h) [
  | inl a ↦ subst (λ y. Matches g classes y m s Failure) ((expression_eq-Decides (without_spans x) e).0 a) k.0
  | inr a ↦ fails_too g classes m s xs e a k.1
]

-- The warnings are true, by the relation of matching.
use Rattle.std.specs.Prelude.{◌≡◌, true, List, map}
use Rattle.lint_patterns.specs.Bodies.{is_same_body}
use Rattle.lint_patterns.specs.Duplicates.{is_among}
use Rattle.front_spanned.specs.Erasure.{without_spans}
use Rattle.front_spanned.specs.Spanned.{Spanned, SpannedRule}
use Rattle.lint_warnings.specs.Laws.{IsNeverTaken, IsSameEverywhere}

-- an alternative that is the same as one before it is never taken
abbrev pub RepeatedIsNeverTaken : Type 0
RepeatedIsNeverTaken = (earlier : List Spanned) (x : Spanned) → is_among earlier (without_spans x) ≡ true
    → IsNeverTaken (map without_spans earlier) (without_spans x)

-- the rules have one type, and from every start their bodies have the same outcomes
abbrev pub RunAlike : SpannedRule → SpannedRule → Type 0
RunAlike q r = (q.type_of ≡ r.type_of) × IsSameEverywhere (without_spans q.body) (without_spans r.body)

abbrev pub SameBodiesRunAlike : Type 0
SameBodiesRunAlike = (q r : SpannedRule) → is_same_body q r ≡ true → RunAlike q r

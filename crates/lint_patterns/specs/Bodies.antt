-- Rules with the type and the body of a rule before them.
use Rattle.std.specs.Prelude.{List, [], ◌∷◌, ◌++◌, Bool, ◌&&◌, if◌then◌else◌}
use Rattle.std.specs.List.{list_any}
use Rattle.base_language.specs.Rewritings.Equality.{expression_eq, rule_type_eq}
use Rattle.lint_patterns.specs.Duplicates.{is_compared}
use Rattle.front_spanned.specs.Erasure.{without_spans}
use Rattle.front_spanned.specs.Spanned.{Span, SpannedRule}

-- both rules have the same type and the same body
abbrev pub is_same_body : SpannedRule → SpannedRule → Bool
is_same_body q r =
    rule_type_eq q.type_of r.type_of && expression_eq (without_spans q.body) (without_spans r.body)

-- one of these has the type and the body of the rule
abbrev pub has_same_body : List SpannedRule → SpannedRule → Bool
has_same_body earlier r = list_any (λ q. is_same_body q r) earlier

-- the span of the name of a rule after these, where its body is compared and one of them has the same
abbrev pub span_if_same : List SpannedRule → SpannedRule → List Span
span_if_same earlier r =
    if is_compared (without_spans r.body) && has_same_body earlier r then r.span ∷ [] else []

abbrev pub bodies_after : List SpannedRule → List SpannedRule → List Span
bodies_after earlier [] = []
bodies_after earlier (r ∷ rs) = span_if_same earlier r ++ bodies_after (earlier ++ r ∷ []) rs

abbrev pub repeated_bodies : List SpannedRule → List Span
repeated_bodies rules = bodies_after [] rules

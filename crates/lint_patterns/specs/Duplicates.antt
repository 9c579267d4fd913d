-- Alternatives that are there twice.
use Rattle.std.specs.Prelude.{List, [], ◌∷◌, ◌++◌, Bool, true, false, ◌&&◌, if◌then◌else◌, nat_le, length, flat_map}
use Rattle.std.specs.List.{list_any}
use Rattle.base_language.specs.Language.Expression.{Expression, Str, Ident}
use Rattle.base_language.specs.Rewritings.Equality.{expression_eq}
use Rattle.lint_patterns.specs.Keys.{key}
use Rattle.front_spanned.specs.Erasure.{without_spans}
use Rattle.front_spanned.specs.Spanned as spanned
use Rattle.front_spanned.specs.Spanned.{Span, Spanned, SpannedRule, Leaf, One, Two, span_of}
use Rattle.lint_warnings.specs.Choices.{alternatives}

-- small expressions alone are compared
abbrev pub is_short : Expression → Bool
is_short e = nat_le (length (key e)) 256

-- a literal or a call
abbrev pub is_plain : Expression → Bool
is_plain (Str t) = true
is_plain (Ident n) = true
is_plain _ = false

-- no literal and no call, and short
abbrev pub is_compared : Expression → Bool
is_compared e = (if is_plain e then false else true) && is_short e

-- one of these is the same expression
abbrev pub is_among : List Spanned → Expression → Bool
is_among xs e = list_any (λ x. expression_eq (without_spans x) e) xs

-- the span of an alternative after these, where it is compared and one of them is the same
abbrev pub span_if_repeated : List Spanned → Spanned → List Span
span_if_repeated earlier x =
    if is_compared (without_spans x) && is_among earlier (without_spans x) then span_of x ∷ [] else []

abbrev pub repeated_after : List Spanned → List Spanned → List Span
repeated_after earlier [] = []
repeated_after earlier (x ∷ xs) = span_if_repeated earlier x ++ repeated_after (earlier ++ x ∷ []) xs

abbrev pub repeated_at : Spanned → List Span
repeated_at x = repeated_after [] (alternatives x)

-- of a choice that is no alternative itself
abbrev pub repeated_here : Bool → Spanned → List Span
repeated_here false (Two s spanned.Choice x y) = repeated_at (Two s spanned.Choice x y)
repeated_here _ _ = []

-- of an expression, which may be an alternative, and of all inside it
abbrev pub repeated_in : Bool → Spanned → List Span
repeated_in inside (Leaf s e) = []
repeated_in inside (One s f x) = repeated_in false x
repeated_in inside (Two s spanned.Seq x y) = repeated_in false x ++ repeated_in false y
repeated_in inside (Two s spanned.Choice x y) =
    repeated_here inside (Two s spanned.Choice x y) ++ (repeated_in true x ++ repeated_in true y)

abbrev pub repeated_alternatives : List SpannedRule → List Span
repeated_alternatives rules = flat_map (λ r. repeated_in false r.body) rules

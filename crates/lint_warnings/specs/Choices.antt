-- Alternatives that are never taken.
use Rattle.std.specs.Prelude.{List, [], ◌∷◌, ◌++◌, Option, Some, None, Bool, false, ◌||◌, if◌then◌else◌, flat_map, option_to_list}
use Rattle.base_language.specs.Language.Text.{Text}
use Rattle.base_language.specs.Language.Builtins.{is_one_of}
use Rattle.base_language.specs.Language.Expression.{Expression, Str, Ident}
use Rattle.base_language.specs.Language.Expression as bare
use Rattle.base_language.specs.Language.Matching.{any_begins}
use Rattle.front_spanned.specs.Erasure.{without_spans}
use Rattle.front_spanned.specs.Spanned.{Span, Spanned, SpannedRule, Leaf, One, Two, Seq, Choice, span_of}
use Rattle.front_spanned.specs.Walk.{preorder}

-- the alternatives of an expression, in order: those of both sides of a choice, or else itself
abbrev pub alternatives : Spanned → List Spanned
alternatives (Two s Choice x y) = alternatives x ++ alternatives y
alternatives (Two s Seq x y) = Two s Seq x y ∷ []
alternatives (One s f x) = One s f x ∷ []
alternatives (Leaf s e) = Leaf s e ∷ []

-- the operands of a node that is no choice
abbrev pub parts : Spanned → List Spanned
parts (Leaf s e) = []
parts (One s f x) = x ∷ []
parts (Two s Seq x y) = x ∷ y ∷ []
parts (Two s Choice x y) = []

-- the literal that an expression is
abbrev pub literal_of : Expression → Option Text
literal_of (Str t) = Some t
literal_of _ = None

-- the literal with which all that an expression matches begins: its own, or that of a sequence's first part
abbrev pub beginning_of : Expression → Option Text
beginning_of (Str t) = Some t
beginning_of (bare.Seq a b) = beginning_of a
beginning_of _ = None

-- the name that an expression calls
abbrev pub call_of : Expression → Option Text
call_of (Ident n) = Some n
call_of _ = None

-- the name that an expression calls first: its own, or that of a sequence's first part
abbrev pub first_call_of : Expression → Option Text
first_call_of (Ident n) = Some n
first_call_of (bare.Seq a b) = first_call_of a
first_call_of _ = None

abbrev pub own_literal : Spanned → List Text
own_literal x = option_to_list (literal_of (without_spans x))

abbrev pub own_call : Spanned → List Text
own_call x = option_to_list (call_of (without_spans x))

-- the literals among some alternatives, and the names that some of them call
abbrev pub literals : List Spanned → List Text
literals xs = flat_map own_literal xs

abbrev pub calls : List Spanned → List Text
calls xs = flat_map own_call xs

abbrev pub begins_so : List Text → Option Text → Bool
begins_so texts None = false
begins_so texts (Some t) = any_begins texts t

abbrev pub is_call_of : List Text → Option Text → Bool
is_call_of names None = false
is_call_of names (Some n) = is_one_of names n

-- one of these texts begins all that the expression matches, or it calls one of these names first
abbrev pub is_begun : List Text → List Text → Spanned → Bool
is_begun texts names x =
    begins_so texts (beginning_of (without_spans x)) || is_call_of names (first_call_of (without_spans x))

-- the span of an alternative after these literals and calls, where one of them begins it
abbrev pub span_if_begun : List Text → List Text → Spanned → List Span
span_if_begun texts names x = if is_begun texts names x then span_of x ∷ [] else []

-- the spans of those among alternatives that a literal or a call before them begins
abbrev pub unreachable_after : List Spanned → List Spanned → List Span
unreachable_after earlier [] = []
unreachable_after earlier (x ∷ xs) =
    span_if_begun (literals earlier) (calls earlier) x ++ unreachable_after (earlier ++ x ∷ []) xs

-- of an expression as a choice; one alternative has none
abbrev pub unreachable_at : Spanned → List Span
unreachable_at x = unreachable_after [] (alternatives x)

-- as a list of one list, where there are some
abbrev pub if_some : List Span → List (List Span)
if_some [] = []
if_some (s ∷ ss) = (s ∷ ss) ∷ []

abbrev pub choice_at : Spanned → List (List Span)
choice_at x = if_some (unreachable_at x)

abbrev pub choices_in_parts : Spanned → List (List Span)
choices_in_parts x = flat_map choice_at (parts x)

-- of a body, and of the nodes in it that are no alternatives of a choice around them
abbrev pub choices_in : Spanned → List (List Span)
choices_in body = choice_at body ++ flat_map choices_in_parts (preorder body)

-- the spans of such alternatives, choice by choice
abbrev pub unreachable_choices : List SpannedRule → List (List Span)
unreachable_choices rules = flat_map (λ r. choices_in r.body) rules

abbrev pub unreachable_alternatives : List SpannedRule → List Span
unreachable_alternatives rules = flat_map (λ spans. spans) (unreachable_choices rules)

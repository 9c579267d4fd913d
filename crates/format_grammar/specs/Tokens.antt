-- Tokens and the gaps between them, without their positions.
use Rattle.std.specs.Prelude.{ℕ, ◌-◌, ◌&&◌, List, [], ◌∷◌, ◌++◌, Bool, true, false, not, if◌then◌else◌, length}
use Rattle.std.specs.List.{slice_range}
use Rattle.base_language.specs.declared.grammar.Rule.{Rule}
use Rattle.base_language.specs.declared.grammar.Rule.TheVariants as rule_is
use Rattle.front_syntax.specs.declared.events.TokenEvent.{TokenEvent}
use Rattle.front_syntax.specs.declared.events.TokenEvent.TheVariants.{Start, End}
use Rattle.format_grammar.specs.Comments.{trimmed_line, comments_of, has_blank_end}

-- the byte at which a token starts or ends
abbrev pub place_of : TokenEvent → ℕ
place_of (Start r i m) = i
place_of (End i m) = i

-- an event without its position
abbrev pub unplaced : TokenEvent → TokenEvent
unplaced (Start r i m) = Start r 0 m
unplaced (End i m) = End 0 m

-- the text of a token without children; of a doc comment without the blanks at its end
abbrev pub token_text : Rule → List ℕ → List ℕ
token_text rule_is.inner_doc text = trimmed_line text
token_text _ text = text

-- the text of a token without children, if two neighbouring events are its start and its end
abbrev pub text_between : List ℕ → TokenEvent → TokenEvent → List ℕ
text_between text (Start r i m) (End j n) = token_text r (slice_range text i j)
text_between text e f = []

-- the comments of the gap between two neighbouring events, if there is one
abbrev pub comments_between : List ℕ → TokenEvent → TokenEvent → List ℕ
comments_between text (Start r i m) (End j n) = []
comments_between text e f = comments_of (slice_range text (place_of e) (place_of f))

-- the tokens after an event: their events without positions, and the texts of those without children
abbrev pub tokens_after : List ℕ → TokenEvent → List TokenEvent → List (TokenEvent × List ℕ)
tokens_after text e [] = []
tokens_after text e (f ∷ es) = (unplaced f, text_between text e f) ∷ tokens_after text f es

-- an infix operator or the leading bar
abbrev pub is_operator : Rule → Bool
is_operator rule_is.choice_operator = true
is_operator rule_is.sequence_operator = true
is_operator _ = false

-- whether no token begins between the gap of two neighbouring events and the next gap, but for an infix
-- operator: a token with children ends after the comments there; a leading bar follows a start
abbrev pub leads_on : TokenEvent → TokenEvent → Bool
leads_on (Start r i m) f = is_operator r
leads_on (End i m) (Start r j n) = is_operator r
leads_on (End i m) (End j n) = true

-- the comments after an event, those of gaps that lead on with those of the next one, since an operator may
-- change its side; these are before the first of them
abbrev pub comments_after : List ℕ → List ℕ → TokenEvent → List TokenEvent → List (List ℕ)
comments_after text before e [] = (before ++ comments_of (slice_range text (place_of e) (length text))) ∷ []
comments_after text before e (f ∷ es) = if leads_on e f
    then comments_after text (before ++ comments_between text e f) f es
    else (before ++ comments_between text e f) ∷ comments_after text [] f es

-- whether no line ends with a blank between two neighbouring events, or in a doc comment before them
abbrev pub is_clean_between : List ℕ → TokenEvent → TokenEvent → Bool
is_clean_between text (Start r i m) (End j n) = true
is_clean_between text e f = not (has_blank_end (slice_range text (place_of e - 1) (place_of f)))

-- whether no line ends with a blank in all gaps after an event
abbrev pub has_clean_lines : List ℕ → TokenEvent → List TokenEvent → Bool
has_clean_lines text e [] = true
has_clean_lines text e (f ∷ es) = is_clean_between text e f && has_clean_lines text f es

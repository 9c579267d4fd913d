-- Starts that never ask for the end of a text.
use Rattle.std.specs.Prelude.{ℕ, zero, suc, List, [], ◌∷◌, Bool, false, not, ◌&&◌, ◌||◌, ◌==◌, if◌then◌else◌, bytes_eq, flat_map, length, nat_lt}
use Rattle.std.specs.List.{list_any}
use Rattle.base_language.specs.Language.Builtins.{is_one_of}
use Rattle.base_language.specs.Language.Expression.{Expression, Ident}
use Rattle.base_language.specs.Language.Text.{Text}
use Rattle.front_names.specs.Builtins.{name_of}
use Rattle.front_names.specs.declared.builtin.Builtin.TheVariants.{Eoi}
use Rattle.front_spanned.specs.Spanned.{Span, Spanned, SpannedRule, Leaf, One, NegPred, Rep, RepOnce}
use Rattle.front_spanned.specs.Walk.{preorder}
use Rattle.lint_warnings.specs.Rules.{is_needed, is_start, needs_no_call}
use Rattle.lint_warnings.specs.Suspects.{is_any}

-- a call of `EOI`, or of a rule that asks for the end (`f`: their names)
abbrev pub is_end_call : (Text → Bool) → Expression → Bool
is_end_call f (Ident n) = bytes_eq n (name_of Eoi) || f n
is_end_call f _ = false

-- such a call, `!ANY`, `ANY*` or `ANY+`
abbrev pub asks_at : (Text → Bool) → Spanned → Bool
asks_at f (Leaf s e) = is_end_call f e
asks_at f (One s NegPred x) = is_any x
asks_at f (One s Rep x) = is_any x
asks_at f (One s RepOnce x) = is_any x
asks_at f _ = false

abbrev pub asks_end : (Text → Bool) → SpannedRule → Bool
asks_end f r = list_any (asks_at f) (preorder r.body)

-- the name of a rule that asks for the end; `f`: the names of rules that are known to
abbrev pub asking_at : (Text → Bool) → SpannedRule → List Text
asking_at f r = if asks_end f r then r.name ∷ [] else []

abbrev pub is_asking_by : (Text → Bool) → List SpannedRule → Text → Bool
is_asking_by f rules n = is_one_of (flat_map (asking_at f) rules) n

-- a rule of the name asks for the end by a chain of fewer than `k` calls
unfoldable pub is_asking : ℕ → List SpannedRule → Text → Bool
is_asking zero rules n = false
is_asking (suc k) rules n = is_asking_by (is_asking k rules) rules n

-- a rule asks for the end by itself
abbrev pub no_name : Text → Bool
no_name n = false

abbrev pub uses_end : List SpannedRule → Bool
uses_end rules = list_any (asks_end no_name) rules

-- no other rule calls it (`f`: the names that are called), and it is not skipped between others
abbrev pub is_entry : (Text → Bool) → SpannedRule → Bool
is_entry f r = not (needs_no_call r.name) && not (f r.name)

abbrev pub entry_at : (Text → Bool) → SpannedRule → List Span
entry_at f r = if is_entry f r then r.span ∷ [] else []

-- one rule is such, and it is not all of a grammar, as in a file that is a part of one
abbrev pub has_one_entry : (Text → Bool) → List SpannedRule → Bool
has_one_entry f rules = nat_lt 1 (length rules) && length (flat_map (entry_at f) rules) == 1

-- such a rule is the only one, or calls a builtin at an end of the text, and does not ask for the end
-- (`g`: the names of rules that do)
abbrev pub is_open : (Text → Bool) → (Text → Bool) → Bool → SpannedRule → Bool
is_open f g only r = is_entry f r && ((only || is_start r) && not (asks_end g r))

abbrev pub open_at : (Text → Bool) → (Text → Bool) → Bool → SpannedRule → List Span
open_at f g only r = if is_open f g only r then r.span ∷ [] else []

abbrev pub open_among : (Text → Bool) → (Text → Bool) → List SpannedRule → List Span
open_among f g rules = flat_map (open_at f g (has_one_entry f rules)) rules

-- the rules of these names
abbrev pub named_at : (Text → Bool) → SpannedRule → List Span
named_at f r = if f r.name then r.span ∷ [] else []

-- several starts are named, and no rule asks for the end: so fronts of texts are to be matched
abbrev pub wants_fronts : List Text → List SpannedRule → Bool
wants_fronts starts rules =
    nat_lt 1 (length (flat_map (named_at (is_one_of starts)) rules)) && not (uses_end rules)

-- the spans of the names of starts that never ask for the end of a text, by chains of at most 32 calls
abbrev pub open_starts : List Text → List SpannedRule → List Span
open_starts starts rules = if wants_fronts starts rules then []
    else open_among (is_needed [] rules) (is_asking 32 rules) rules

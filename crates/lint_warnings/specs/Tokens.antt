-- Repetitions of characters between which blanks are skipped.
use Rattle.std.specs.Prelude.{ℕ, zero, suc, List, [], ◌∷◌, Option, Some, None, Bool, true, false, not, ◌&&◌, ◌||◌, if◌then◌else◌, nat_lt, bytes_eq, flat_map, take}
use Rattle.std.specs.List.{list_all, list_any}
use Rattle.base_language.specs.Language.Text.{Text}
use Rattle.base_language.specs.Language.Builtins.{Builtin, builtin_of, is_one_of}
use Rattle.base_language.specs.Language.Builtins as builtin
use Rattle.base_language.specs.Language.Expression.{Expression, RuleType, NonAtomic, Str, Insens, Range, Ident}
use Rattle.front_names.specs.CharSets.{set_name}
use Rattle.front_names.specs.declared.char_set.CharSet.TheVariants.{Any, Ascii}
use Rattle.front_spanned.specs.Spanned.{Span, Spanned, SpannedRule, Leaf, One, Two, Choice, Rep, RepOnce, RepExact, RepMin, RepMax, RepMinMax, span_of}
use Rattle.front_spanned.specs.Walk.{preorder}
use Rattle.lint_warnings.specs.Rules.{needs_no_call}
use Rattle.lint_warnings.specs.Skipping.{is_reached, roots, skips}

-- the operand that is repeated, where it may be more than once
abbrev pub if_several : ℕ → Spanned → Option Spanned
if_several n x = if nat_lt 1 n then Some x else None

abbrev pub repeated_operand : Spanned → Option Spanned
repeated_operand (One s Rep x) = Some x
repeated_operand (One s RepOnce x) = Some x
repeated_operand (One s (RepMin m) x) = Some x
repeated_operand (One s (RepExact n) x) = if_several n x
repeated_operand (One s (RepMax n) x) = if_several n x
repeated_operand (One s (RepMinMax m n) x) = if_several n x
repeated_operand _ = None

-- a set of characters
abbrev pub is_set : Option Builtin → Bool
is_set (Some (builtin.One f)) = true
is_set (Some (builtin.Property n)) = true
is_set _ = false

-- a builtin that is one, but not that of all, and not that of all in ASCII
abbrev pub is_class_name : Text → Bool
is_class_name n =
    not (bytes_eq n (set_name Any)) && (not (bytes_eq n (set_name Ascii)) && is_set (builtin_of n))

-- a class of characters: a range, such a builtin, or a call of such a rule (`f`: their names)
abbrev pub is_class_leaf : (Text → Bool) → Expression → Bool
is_class_leaf f (Range a b) = true
is_class_leaf f (Ident n) = is_class_name n || f n
is_class_leaf f _ = false

abbrev pub is_class_node : (Text → Bool) → Spanned → Bool
is_class_node f (Leaf s e) = is_class_leaf f e
is_class_node f _ = false

-- a literal of one character
abbrev pub is_single : Text → Bool
is_single (c ∷ []) = true
is_single _ = false

abbrev pub is_letter_leaf : Expression → Bool
is_letter_leaf (Str t) = is_single t
is_letter_leaf (Insens t) = is_single t
is_letter_leaf _ = false

-- such a literal, or a choice
abbrev pub is_letter_or_choice : Spanned → Bool
is_letter_or_choice (Leaf s e) = is_letter_leaf e
is_letter_or_choice (Two s Choice x y) = true
is_letter_or_choice _ = false

abbrev pub is_part : (Text → Bool) → Spanned → Bool
is_part f x = is_class_node f x || is_letter_or_choice x

-- classes and literals of one character, at least one of them a class
abbrev pub is_class : (Text → Bool) → Spanned → Bool
is_class f x = list_all (is_part f) (preorder x) && list_any (is_class_node f) (preorder x)

-- the name of a rule that is a class; `f`: the names of rules that are known to be
abbrev pub class_at : (Text → Bool) → SpannedRule → List Text
class_at f r = if is_class f r.body then r.name ∷ [] else []

abbrev pub is_class_by : (Text → Bool) → List SpannedRule → Text → Bool
is_class_by f rules n = is_one_of (flat_map (class_at f) rules) n

-- a rule of the name is a class by a chain of fewer than `k` calls
unfoldable pub is_class_rule : ℕ → List SpannedRule → Text → Bool
is_class_rule zero rules n = false
is_class_rule (suc k) rules n = is_class_by (is_class_rule k rules) rules n

-- a repetition of a class; `f`: the names of such rules
abbrev pub is_class_if_some : (Text → Bool) → Option Spanned → Bool
is_class_if_some f (Some x) = is_class f x
is_class_if_some f None = false

abbrev pub repeats_class : (Text → Bool) → Spanned → Bool
repeats_class f x = is_class_if_some f (repeated_operand x)

-- its span
abbrev pub repetition_at : (Text → Bool) → Spanned → List Span
repetition_at f x = if repeats_class f x then span_of x ∷ [] else []

abbrev pub repetitions_in : (Text → Bool) → Spanned → List Span
repetitions_in f body = flat_map (repetition_at f) (preorder body)

-- its author marked the rule as one that skips blanks
abbrev pub is_marked : RuleType → Bool
is_marked NonAtomic = true
is_marked _ = false

-- blanks are skipped between its parts without such a mark; `f`: the names that are called so
abbrev pub skips_unasked : (Text → Bool) → SpannedRule → Bool
skips_unasked f r = not (is_marked r.type_of) && skips f r

-- the first such span in such a rule
abbrev pub loose_in_rule : (Text → Bool) → (Text → Bool) → SpannedRule → List Span
loose_in_rule f g r = if skips_unasked f r then take 1 (repetitions_in g r.body) else []

-- a rule for blanks is defined
abbrev pub defines_blanks : List SpannedRule → Bool
defines_blanks rules = list_any (λ r. needs_no_call r.name) rules

-- the spans of repetitions of characters between which blanks are skipped, one of a rule
abbrev pub blanks_in_tokens : List SpannedRule → List Span
blanks_in_tokens rules = if defines_blanks rules
    then flat_map (loose_in_rule (is_reached 32 (roots rules) rules) (is_class_rule 8 rules)) rules
    else []

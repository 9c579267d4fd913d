-- Nodes that are suspect by themselves.
use Rattle.std.specs.Prelude.{List, [], ◌∷◌, Bool, true, false, ◌&&◌, ◌||◌, if◌then◌else◌, nat_lt, bytes_eq, flat_map}
use Rattle.base_language.specs.Language.Text.{Text}
use Rattle.base_language.specs.Language.Expression.{Expression, Str, Insens, Range, Ident, PeekSlice}
use Rattle.front_names.specs.Builtins.{name_of}
use Rattle.front_names.specs.CharSets.{set_name}
use Rattle.front_names.specs.declared.builtin.Builtin.TheVariants.{Drop, Peek, PeekAll, Pop, PopAll}
use Rattle.front_names.specs.declared.char_set.CharSet.TheVariants.{Any}
use Rattle.front_spanned.specs.Spanned.{Span, Spanned, SpannedRule, Leaf, One, Two, PosPred, NegPred, Opt, Rep, RepOnce, RepMax, RepMinMax, Seq, span_of}
use Rattle.front_spanned.specs.Walk.{preorder}
use Rattle.lint_warnings.specs.Ranges.{is_reversed}
use Rattle.lint_warnings.specs.declared.suspects.Suspect.{Suspect}
use Rattle.lint_warnings.specs.declared.suspects.Suspect.TheVariants as suspect

-- a count whose first number is above its last
abbrev pub has_reversed_count : Spanned → Bool
has_reversed_count (One s (RepMinMax m n) x) = nat_lt n m
has_reversed_count _ = false

-- an option, or a repetition that may be of no turns
abbrev pub is_optional : Spanned → Bool
is_optional (One s Opt x) = true
is_optional (One s Rep x) = true
is_optional (One s (RepMax n) x) = true
is_optional _ = false

-- a test or an option of such
abbrev pub is_idle_test : Spanned → Bool
is_idle_test (One s PosPred x) = is_optional x
is_idle_test (One s Opt x) = is_optional x
is_idle_test _ = false

abbrev pub has_character : Text → Bool
has_character [] = false
has_character (c ∷ t) = true

abbrev pub is_any_name : Expression → Bool
is_any_name (Ident n) = bytes_eq n (set_name Any)
is_any_name _ = false

abbrev pub is_any : Spanned → Bool
is_any (Leaf s e) = is_any_name e
is_any _ = false

-- a leaf that takes a character: a literal that is not empty, a range, `ANY`
abbrev pub is_character_leaf : Expression → Bool
is_character_leaf (Str t) = has_character t
is_character_leaf (Insens t) = has_character t
is_character_leaf (Range a b) = true
is_character_leaf e = is_any_name e

abbrev pub is_character : Spanned → Bool
is_character (Leaf s e) = is_character_leaf e
is_character _ = false

-- the first part of a sequence is such a leaf
abbrev pub takes_character : Spanned → Bool
takes_character (Two s Seq x y) = takes_character x
takes_character x = is_character x

abbrev pub repeats_any : Spanned → Bool
repeats_any (One s Rep x) = is_any x
repeats_any (One s RepOnce x) = is_any x
repeats_any _ = false

-- the last part of a sequence repeats `ANY`
abbrev pub takes_rest : Spanned → Bool
takes_rest (Two s Seq x y) = takes_rest y
takes_rest x = repeats_any x

-- a builtin that reads the stack
abbrev pub reads_stack : Text → Bool
reads_stack n = bytes_eq n (name_of Peek) || bytes_eq n (name_of PeekAll) || bytes_eq n (name_of Pop)
    || bytes_eq n (name_of PopAll) || bytes_eq n (name_of Drop)

abbrev pub is_stack_leaf : Expression → Bool
is_stack_leaf (PeekSlice i j) = true
is_stack_leaf (Ident n) = reads_stack n
is_stack_leaf e = false

abbrev pub is_stack_read : Spanned → Bool
is_stack_read (Leaf s e) = is_stack_leaf e
is_stack_read _ = false

-- a refusal of an optional node, and a character where none is left
abbrev pub is_unmatchable : Spanned → Bool
is_unmatchable (One s NegPred x) = is_optional x
is_unmatchable (Two s Seq x y) = takes_rest x && takes_character y
is_unmatchable _ = false

abbrev pub is_suspect : Suspect → Spanned → Bool
is_suspect suspect.ReversedRange x = is_reversed x
is_suspect suspect.ReversedCount x = has_reversed_count x
is_suspect suspect.IdleTest x = is_idle_test x
is_suspect suspect.Unmatchable x = is_unmatchable x
is_suspect suspect.StackRead x = is_stack_read x

-- the span of a node, where it is suspect
abbrev pub suspects_at : Suspect → Spanned → List Span
suspects_at reason x = if is_suspect reason x then span_of x ∷ [] else []

-- such spans in a body, and in all rules
abbrev pub suspects_in : Suspect → Spanned → List Span
suspects_in reason body = flat_map (suspects_at reason) (preorder body)

abbrev pub suspects : Suspect → List SpannedRule → List Span
suspects reason rules = flat_map (λ r. suspects_in reason r.body) rules

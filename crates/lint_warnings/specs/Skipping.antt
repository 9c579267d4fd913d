-- Rules between whose parts blanks are skipped.
use Rattle.std.specs.Prelude.{ℕ, zero, suc, List, [], ◌∷◌, Bool, true, false, not, ◌&&◌, ◌||◌, if◌then◌else◌, flat_map, map, take}
use Rattle.base_language.specs.Language.Text.{Text}
use Rattle.base_language.specs.Language.Expression.{RuleType, Normal, Silent, Atomic, CompoundAtomic, NonAtomic}
use Rattle.base_language.specs.Language.Builtins.{is_one_of}
use Rattle.lint_warnings.specs.Rules.{SpannedRule, calls_another, is_needed, is_start, needs_no_call}

-- no other rule calls it (`f`: the names that are called), or it calls a builtin at an end of the text
abbrev pub is_root : (Text → Bool) → SpannedRule → Bool
is_root f r = not (f r.name) || is_start r

abbrev pub root_at : (Text → Bool) → SpannedRule → List Text
root_at f r = if is_root f r then r.name ∷ [] else []

abbrev pub listed_roots : List SpannedRule → List Text
listed_roots rules = flat_map (root_at (is_needed [] rules)) rules

-- these, or where there are none the first rule's name
abbrev pub or_first : List SpannedRule → List Text → List Text
or_first rules [] = map (λ r. r.name) (take 1 rules)
or_first rules (t ∷ ts) = t ∷ ts

-- the names with which matching may start
abbrev pub roots : List SpannedRule → List Text
roots rules = or_first rules (listed_roots rules)

-- a rule of this type skips blanks; `called`: a rule that skips blanks calls it
abbrev pub skips_by_type : RuleType → Bool → Bool
skips_by_type Normal called = called
skips_by_type Silent called = called
skips_by_type Atomic called = false
skips_by_type CompoundAtomic called = false
skips_by_type NonAtomic called = true

-- blanks are skipped between its parts; `f`: the names that rules which skip blanks call
abbrev pub skips : (Text → Bool) → SpannedRule → Bool
skips f r = not (needs_no_call r.name) && skips_by_type r.type_of (f r.name)

abbrev pub calls_skipping : (Text → Bool) → SpannedRule → Text → Bool
calls_skipping f r n = skips f r && calls_another r n

abbrev pub is_called_skipping : (Text → Bool) → List SpannedRule → Text → Bool
is_called_skipping f [] n = false
is_called_skipping f (r ∷ rs) n = calls_skipping f r n || is_called_skipping f rs n

abbrev pub is_root_or_called : (Text → Bool) → List Text → List SpannedRule → Text → Bool
is_root_or_called f roots rules n = is_one_of roots n || is_called_skipping f rules n

-- a chain of at most `k` calls leads to the name from a root, each in a rule that skips blanks
unfoldable pub is_reached : ℕ → List Text → List SpannedRule → Text → Bool
is_reached zero roots rules n = is_one_of roots n
is_reached (suc k) roots rules n = is_root_or_called (is_reached k roots rules) roots rules n

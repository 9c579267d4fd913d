-- The outcomes of expressions without operands: literals, ranges, builtins, slices and `Skip`.
use Rattle.std.specs.Prelude.{ℕ, suc, ◌-◌, List, [], ◌∷◌, ◌++◌, Option, Some, None, Bool, true, false, ◌&&◌, ◌||◌, ℤ, pos, negsuc, if◌then◌else◌, codes, nat_eq, nat_le, ◌==◌, length, take, drop, reverse}
use Rattle.base_language.specs.Language.Text.{Text}
use Rattle.base_language.specs.Language.State.{Mode, NonAtomicMode, AtomicMode, CompoundAtomicMode, Between, State, Trees, None', Tree, Outcome, Success, Failure, Classes, moved}
use Rattle.base_language.specs.Language.Builtins.{Builtin, Drop, Eoi, Newline, One, Peek, PeekAll, Pop, PopAll, Property, Soi, builtin_of, is_between}

-- whether the second text begins with the first, characters compared by `alike`
abbrev pub begins : (ℕ → ℕ → Bool) → Text → Text → Bool
begins alike [] u = true
begins alike (c ∷ t) [] = false
begins alike (c ∷ t) (d ∷ u) = alike c d && begins alike t u

abbrev pub text_outcome : (ℕ → ℕ → Bool) → Text → State → Outcome
text_outcome alike t s = if begins alike t s.rest then Success (moved (length t) s) None' else Failure

-- the next character is one of a set
abbrev pub starts_in : (ℕ → Bool) → Text → Bool
starts_in set [] = false
starts_in set (c ∷ t) = set c

abbrev pub character_outcome : (ℕ → Bool) → State → Outcome
character_outcome set s = if starts_in set s.rest then Success (moved 1 s) None' else Failure

abbrev pub range_set : Text → Text → ℕ → Bool
range_set (a ∷ t) (b ∷ u) c = is_between a b c
range_set _ _ c = false

abbrev pub any_begins : List Text → Text → Bool
any_begins [] u = false
any_begins (t ∷ ts) u = begins nat_eq t u || any_begins ts u

-- the number of characters before the first occurrence of one of the texts, or before the end
abbrev pub distance : List Text → Text → ℕ
distance ts [] = 0
distance ts (c ∷ u) = let d = distance ts u in if any_begins ts (c ∷ u) then 0 else suc d

-- a slice's number as an index in a stack of n entries
abbrev pub place : ℕ → ℤ → Option ℕ
place n (pos i) = if nat_le i n then Some i else None
place n (negsuc i) = if nat_le (suc i) n then Some (n - suc i) else None

abbrev pub end_place : ℕ → Option ℤ → Option ℕ
end_place n None = Some n
end_place n (Some j) = place n j

abbrev pub concatenated : List Text → Text
concatenated [] = []
concatenated (t ∷ ts) = t ++ concatenated ts

abbrev pub slice_at : Option ℕ → Option ℕ → State → Outcome
slice_at (Some i) (Some j) s = text_outcome nat_eq (concatenated (take (j - i) (drop i (reverse s.stack)))) s
slice_at _ _ s = Failure

abbrev pub slice_outcome : ℤ → Option ℤ → State → Outcome
slice_outcome i j s = slice_at (place (length s.stack) i) (end_place (length s.stack) j) s

-- EOI gives a token unless it is called in Atomic
abbrev pub end_token : Mode → ℕ → Trees
end_token AtomicMode i = None'
end_token _ i = Tree (codes "EOI") i i None' None'

abbrev pub end_outcome : Mode → Text → State → Outcome
end_outcome m [] s = Success s (end_token m s.position)
end_outcome m (c ∷ u) s = Failure

-- line feed; carriage return and line feed; carriage return
abbrev pub newline_outcome : State → Outcome
newline_outcome s =
    if begins nat_eq (10 ∷ []) s.rest
    then Success (moved 1 s) None'
    else (if begins nat_eq (13 ∷ 10 ∷ []) s.rest then Success (moved 2 s) None'
    else text_outcome nat_eq (13 ∷ []) s)

-- an outcome with another stack
abbrev pub with_stack : List Text → Outcome → Outcome
with_stack ts Failure = Failure
with_stack ts (Success t us) = Success (record t { stack = ts }) us

-- PEEK, POP and DROP on a stack
abbrev pub peek_outcome : List Text → State → Option Outcome
peek_outcome [] s = None
peek_outcome (t ∷ ts) s = Some (text_outcome nat_eq t s)

abbrev pub pop_outcome : List Text → State → Option Outcome
pop_outcome [] s = None
pop_outcome (t ∷ ts) s = Some (with_stack ts (text_outcome nat_eq t s))

abbrev pub drop_outcome : List Text → State → Outcome
drop_outcome [] s = Failure
drop_outcome (t ∷ ts) s = Success (record s { stack = ts }) None'

-- the outcome of a builtin, if there is one
abbrev pub builtin_outcome : Classes → Mode → Builtin → State → Option Outcome
builtin_outcome classes m (One set) s = Some (character_outcome set s)
builtin_outcome classes m (Property n) s = Some (character_outcome (classes n) s)
builtin_outcome classes m Newline s = Some (newline_outcome s)
builtin_outcome classes m Soi s = Some (if s.position == 0 then Success s None' else Failure)
builtin_outcome classes m Eoi s = Some (end_outcome m s.rest s)
builtin_outcome classes m Peek s = peek_outcome s.stack s
builtin_outcome classes m Pop s = pop_outcome s.stack s
builtin_outcome classes m Drop s = Some (drop_outcome s.stack s)
builtin_outcome classes m PeekAll s = Some (text_outcome nat_eq (concatenated s.stack) s)
builtin_outcome classes m PopAll s = Some (with_stack [] (text_outcome nat_eq (concatenated s.stack) s))

abbrev pub named_outcome : Classes → Mode → Option Builtin → State → Option Outcome
named_outcome classes m None s = None
named_outcome classes m (Some b) s = builtin_outcome classes m b s

-- the outcome of a name that is no rule's: the skipping's own names fail where they are not defined
abbrev pub other_outcome : Classes → Mode → Text → State → Option Outcome
other_outcome classes Between n s = Some Failure
other_outcome classes NonAtomicMode n s = named_outcome classes NonAtomicMode (builtin_of n) s
other_outcome classes AtomicMode n s = named_outcome classes AtomicMode (builtin_of n) s
other_outcome classes CompoundAtomicMode n s = named_outcome classes CompoundAtomicMode (builtin_of n) s

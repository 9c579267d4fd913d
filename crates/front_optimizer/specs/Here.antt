-- The effect of each pass at one node.
use Rattle.std.specs.Prelude.{◌++◌, if◌then◌else◌}
use Rattle.base_language.specs.Language.Expression.{Expression, Str, Insens, Seq, Choice, Opt, RepExact, RepMin, RepMax, RepMinMax, RuleType, Atomic, CompoundAtomic}
use Rattle.base_language.specs.Language.Meaning.{exactly, at_least, at_most, from_to}
use Rattle.base_language.specs.Rewritings.Listing.{listed_sequence}
use Rattle.base_language.specs.Rewritings.Equality.{expression_eq}

-- a step again and again, until it applies no more
pub data Exhausted (R : Expression → Expression → Type 0) : Expression → Expression → Type 0 where
  stop : {a : Expression} → ((q : Expression) → R a q → ⊥) → Exhausted R a a
  again : {a b c : Expression} → R a b → Exhausted R b c → Exhausted R a c

-- the copies that counted repetitions mean
abbrev pub unrolled_here : Expression → Expression
unrolled_here (RepExact e i) = exactly e i
unrolled_here (RepMin e i) = at_least e i
unrolled_here (RepMax e i) = at_most e i
unrolled_here (RepMinMax e i j) = from_to e i j
unrolled_here e = e

-- two literals in sequence as one
abbrev pub joined_here : Expression → Expression
joined_here (Seq (Str a) (Str b)) = Str (a ++ b)
joined_here (Seq (Insens a) (Insens b)) = Insens (a ++ b)
joined_here e = e

abbrev pub listed_here : Expression → Expression
listed_here (Seq a b) = listed_sequence a b
listed_here e = e

-- `(l ~ r) | l` in the atomic types
abbrev pub with_optional : Expression → Expression → Expression → Expression
with_optional l r k = if expression_eq l k then Seq l (Opt r) else Choice (Seq l r) k

-- `a | (a ~ r)`
abbrev pub absorbed : Expression → Expression → Expression
absorbed a (Seq l r) = if expression_eq a l then a else Choice a (Seq l r)
absorbed a b = Choice a b

-- a choice of two sequences is tried for a common front alone; else in the atomic types a choice with a
-- sequence on its left for `?` alone; else whether its right side is its left side and more
abbrev pub factored_choice : RuleType → Expression → Expression → Expression
factored_choice y (Seq l r) (Seq k q) = if expression_eq l k then Seq l (Choice r q)
    else Choice (Seq l r) (Seq k q)
factored_choice Atomic (Seq l r) k = with_optional l r k
factored_choice CompoundAtomic (Seq l r) k = with_optional l r k
factored_choice y a b = absorbed a b

abbrev pub factored_here : RuleType → Expression → Expression
factored_here y (Choice a b) = factored_choice y a b
factored_here y e = e

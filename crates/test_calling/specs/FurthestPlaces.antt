-- Failures that count for the position of an error.
use Rattle.std.specs.Prelude.{◌≡◌, ℕ, [], ◌∷◌, codes}
use Rattle.base_language.specs.Language.Text.{Text}
use Rattle.base_language.specs.Language.Expression.{Expression, Str, Ident, Seq, Choice, NegPred, RuleType, Normal, Atomic, CompoundAtomic, Grammar}
use Rattle.base_language.specs.Language.State.{NonAtomicMode, Outcome, Success, Failure, Classes, None', Tree}
use Rattle.base_language.specs.Language.Meaning.{Matches}
use Rattle.base_language.specs.Language.FurthestFailure.{furthest}
use Rattle.test_calling.specs.SmallGrammars.{at_start, end_of}

-- the rule `a` has this outcome on a text, and this is the position of the furthest failure that counts
pub record HasRun (g : Grammar) (classes : Classes) (t : Text) (o : Outcome) (place : ℕ) : Type 0 where
  pub outcome : Matches g classes (Ident (codes "a")) NonAtomicMode (at_start t) o
  pub furthest_failure : (d : Matches g classes (Ident (codes "a")) NonAtomicMode (at_start t) o)
      → furthest d ≡ place

-- a rule `a` of some type and body, and b = { "y" }
abbrev pub above_b : RuleType → Expression → Grammar
above_b type_of body =
    record { name = codes "a"; type_of = type_of; body = body }
    ∷ record { name = codes "b"; type_of = Normal; body = Str (codes "y") }
    ∷ []

-- on `xz`, `a = ${ "x" ~ !b ~ "z" }` succeeds: the call of `b` that failed below the predicate counts
abbrev pub CountsUnderPredicate : Classes → Type 0
CountsUnderPredicate classes = HasRun
    (above_b CompoundAtomic (Seq (Str (codes "x")) (Seq (NegPred (Ident (codes "b"))) (Str (codes "z")))))
    classes (codes "xz") (Success (end_of 2 (at_start [])) (Tree (codes "a") 0 2 None' None')) 1

-- on `xz`, the call of `b` in `"x" ~ b` fails at 1: in an Atomic rule it doesn't count, so that no place is
-- further than the start, if the rule itself fails; in a CompoundAtomic one it counts
pub record CountsByMode (classes : Classes) : Type 0 where
  pub in_atomic : HasRun (above_b Atomic (Seq (Str (codes "x")) (Ident (codes "b")))) classes (codes "xz")
      Failure 0
  pub in_compound_atomic : HasRun (above_b CompoundAtomic (Seq (Str (codes "x")) (Ident (codes "b"))))
      classes (codes "xz") Failure 1

-- on `xz`, the first side of `a = ${ "x" ~ b | "z" }` is given up at 1: its call of `b` counts, also if
-- another side then matches
pub record CountsWhenGivenUp (classes : Classes) : Type 0 where
  pub both_fail : HasRun
      (above_b CompoundAtomic (Choice (Seq (Str (codes "x")) (Ident (codes "b"))) (Str (codes "z"))))
      classes (codes "xz") Failure 1
  pub second_matches : HasRun
      (above_b CompoundAtomic (Choice (Seq (Str (codes "x")) (Ident (codes "b"))) (Str (codes "xz"))))
      classes (codes "xz") (Success (end_of 2 (at_start [])) (Tree (codes "a") 0 2 None' None')) 1

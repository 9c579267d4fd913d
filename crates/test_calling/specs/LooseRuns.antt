-- Outcomes of a few expressions in the meaning in which a failure leaves a stack.
use Rattle.std.specs.Prelude.{[], ◌∷◌, codes}
use Rattle.base_language.specs.Language.Expression.{Str, Ident, Choice, RepOnce, RepExact, RestoreOnErr, Normal, Grammar}
use Rattle.base_language.specs.Language.State.{NonAtomicMode, None', Tree, Success, Failure, Classes}
use Rattle.base_language.specs.Language.Meaning.{Matches}
use Rattle.base_language.specs.Language.LooseMeaning.{Done, Lost, MatchesLoosely}
use Rattle.test_calling.specs.SmallGrammars.{at_start, stacked, end_of}

-- a POP that fails loses its entry, a POP_ALL all entries down to and with the first that differs
pub record FailuresLose (classes : Classes) : Type 0 where
  pub pop : MatchesLoosely [] classes (Ident (codes "POP")) NonAtomicMode (stacked (codes "a"))
      (Lost (codes "a" ∷ []))
  pub pop_all : MatchesLoosely [] classes (Ident (codes "POP_ALL")) NonAtomicMode (stacked (codes "bx"))
      (Lost [])
  pub peek : MatchesLoosely [] classes (Ident (codes "PEEK")) NonAtomicMode (stacked (codes "a"))
      (Lost (codes "b" ∷ codes "a" ∷ []))
  pub one_copy : MatchesLoosely [] classes (RepExact (Ident (codes "POP")) 1) NonAtomicMode
      (stacked (codes "a")) (Lost (codes "a" ∷ []))

-- in `POP | PEEK` the second starts from the stack that the failed POP left: so it matches where it fails
-- in the strict meaning; with the wrapper around POP it fails in both
pub record GoesOnFromWhatIsLeft (classes : Classes) : Type 0 where
  pub loosely : MatchesLoosely [] classes (Choice (Ident (codes "POP")) (Ident (codes "PEEK"))) NonAtomicMode
      (stacked (codes "a")) (Done (record { position = 1; rest = []; stack = codes "a" ∷ [] }) None')
  pub strictly : Matches [] classes (Choice (Ident (codes "POP")) (Ident (codes "PEEK"))) NonAtomicMode
      (stacked (codes "a")) Failure
  pub wrapped : MatchesLoosely [] classes (Choice (RestoreOnErr (Ident (codes "POP"))) (Ident (codes "PEEK")))
      NonAtomicMode (stacked (codes "a")) (Lost (codes "b" ∷ codes "a" ∷ []))
  pub wrapped_strictly : Matches [] classes
      (Choice (RestoreOnErr (Ident (codes "POP"))) (Ident (codes "PEEK"))) NonAtomicMode
      (stacked (codes "a")) Failure

-- a = { "x"+ }
abbrev pub repeated : Grammar
repeated = record { name = codes "a"; type_of = Normal; body = RepOnce (Str (codes "x")) } ∷ []

-- on `x` it ends at 1 in both meanings
pub record RepeatsInBoth (classes : Classes) : Type 0 where
  pub strictly : Matches repeated classes (Ident (codes "a")) NonAtomicMode (at_start (codes "x"))
      (Success (end_of 1 (at_start [])) (Tree (codes "a") 0 1 None' None'))
  pub loosely : MatchesLoosely repeated classes (Ident (codes "a")) NonAtomicMode (at_start (codes "x"))
      (Done (end_of 1 (at_start [])) (Tree (codes "a") 0 1 None' None'))

-- Outcomes of single parts: builtins, copies, options and turns.
use Rattle.std.specs.Prelude.{◌≡◌, true, false, [], ◌∷◌, codes}
use Rattle.base_language.specs.Language.Expression.{Str, Ident, Seq, Opt, Rep, RepExact, RepMin, Silent, Normal, Grammar}
use Rattle.base_language.specs.Language.State.{NonAtomicMode, AtomicMode, None', Tree, Success, Failure, Classes}
use Rattle.base_language.specs.Language.Meaning.{Matches}
use Rattle.test_calling.specs.SmallGrammars.{at_start, end_of, ends_at}

-- SOI takes nothing at position 0, also before more text, and fails after a character
pub record OnlyAtTheStart (classes : Classes) : Type 0 where
  pub before_text : Matches [] classes (Ident (codes "SOI")) NonAtomicMode (at_start (codes "a"))
      (ends_at (at_start (codes "a")))
  pub behind : Matches [] classes (Ident (codes "SOI")) NonAtomicMode
      (record { position = 1; rest = codes "b"; stack = [] }) Failure
  pub at_the_end : Matches [] classes (Ident (codes "SOI")) NonAtomicMode (end_of 1 (at_start [])) Failure

-- ASCII_HEX_DIGIT takes one of `0` to `9`, `a` to `f` and `A` to `F`
pub record HexDigits (classes : Classes) : Type 0 where
  pub digit : Matches [] classes (Ident (codes "ASCII_HEX_DIGIT")) NonAtomicMode (at_start (codes "9a"))
      (ends_at (record { position = 1; rest = codes "a"; stack = [] }))
  pub small : Matches [] classes (Ident (codes "ASCII_HEX_DIGIT")) NonAtomicMode (at_start (codes "f"))
      (ends_at (end_of 1 (at_start [])))
  pub capital : Matches [] classes (Ident (codes "ASCII_HEX_DIGIT")) NonAtomicMode (at_start (codes "F"))
      (ends_at (end_of 1 (at_start [])))
  pub past_f : Matches [] classes (Ident (codes "ASCII_HEX_DIGIT")) NonAtomicMode (at_start (codes "g"))
      Failure
  pub at_the_end : Matches [] classes (Ident (codes "ASCII_HEX_DIGIT")) NonAtomicMode (at_start []) Failure

-- LETTER takes one character, of two bytes here, if it is in the set of that name
pub record AsksTheSet (classes : Classes) : Type 0 where
  pub among : classes (codes "LETTER") 233 ≡ true
      → Matches [] classes (Ident (codes "LETTER")) NonAtomicMode (at_start (233 ∷ []))
      (ends_at (end_of 2 (at_start [])))
  pub not_among : classes (codes "LETTER") 233 ≡ false
      → Matches [] classes (Ident (codes "LETTER")) NonAtomicMode (at_start (233 ∷ [])) Failure
  pub at_the_end : Matches [] classes (Ident (codes "LETTER")) NonAtomicMode (at_start []) Failure

-- `"x"{2}` and `"x"{2,}` fail after one copy; with three the first takes two of them, the second all
pub record TwoCopies (classes : Classes) : Type 0 where
  pub exactly : Matches [] classes (RepExact (Str (codes "x")) 2) AtomicMode (at_start (codes "xy")) Failure
  pub at_least : Matches [] classes (RepMin (Str (codes "x")) 2) AtomicMode (at_start (codes "xy")) Failure
  pub exactly_of_three : Matches [] classes (RepExact (Str (codes "x")) 2) AtomicMode
      (at_start (codes "xxx")) (ends_at (record { position = 2; rest = codes "x"; stack = [] }))
  pub at_least_of_three : Matches [] classes (RepMin (Str (codes "x")) 2) AtomicMode
      (at_start (codes "xxx")) (ends_at (end_of 3 (at_start [])))

-- `"x"?` takes what its operand takes, once; if that fails, nothing
pub record Options (classes : Classes) : Type 0 where
  pub succeeds : Matches [] classes (Opt (Str (codes "x"))) NonAtomicMode (at_start (codes "xx"))
      (ends_at (record { position = 1; rest = codes "x"; stack = [] }))
  pub fails : Matches [] classes (Opt (Str (codes "x"))) NonAtomicMode (at_start (codes "y"))
      (ends_at (at_start (codes "y")))

-- WHITESPACE = _{ " " }  a = { "x"* }
abbrev pub turns : Grammar
turns =
    record { name = codes "WHITESPACE"; type_of = Silent; body = Str (codes " ") }
    ∷ record { name = codes "a"; type_of = Normal; body = Rep (Str (codes "x")) }
    ∷ []

-- a later turn that fails gives back the input that it took, and that was skipped before it
pub record LaterTurnsFail (classes : Classes) : Type 0 where
  pub taken : Matches [] classes (Rep (Seq (Str (codes "x")) (Str (codes "y")))) AtomicMode
      (at_start (codes "xyxz")) (ends_at (record { position = 2; rest = codes "xz"; stack = [] }))
  pub skipped : Matches turns classes (Ident (codes "a")) NonAtomicMode (at_start (codes "x y"))
      (Success (record { position = 1; rest = codes " y"; stack = [] })
      (Tree (codes "a") 0 1 None' None'))

-- Expected names where a match gets no further.
use Rattle.std.specs.Prelude.{◌≡◌, List, [], ◌∷◌, codes}
use Rattle.base_language.specs.Language.Text.{Text}
use Rattle.base_language.specs.Language.Expression.{Expression, Str, Ident, Seq, Choice, Opt, NegPred, PosPred, RuleType, Normal, Silent, Atomic, CompoundAtomic, Grammar}
use Rattle.base_language.specs.Language.State.{NonAtomicMode, Outcome, Failure, Classes}
use Rattle.base_language.specs.Language.Meaning.{Matches}
use Rattle.base_language.specs.Language.Expected.{expected}
use Rattle.test_calling.specs.SmallGrammars.{at_start}

-- the rule `a` fails on a text, and these names are expected where it got no further
pub record Expects (g : Grammar) (classes : Classes) (t : Text) (names : List Text) : Type 0 where
  pub fails : Matches g classes (Ident (codes "a")) NonAtomicMode (at_start t) Failure
  pub expects : (d : Matches g classes (Ident (codes "a")) NonAtomicMode (at_start t) Failure)
      → expected d ≡ names

-- a rule `a` of some type and body, b of some type and body, and c = { "z" }
abbrev pub above_b_and_c : RuleType → Expression → RuleType → Expression → Grammar
above_b_and_c type_of_a a type_of_b b =
    record { name = codes "a"; type_of = type_of_a; body = a }
    ∷ record { name = codes "b"; type_of = type_of_b; body = b }
    ∷ record { name = codes "c"; type_of = Normal; body = Str (codes "z") }
    ∷ []

-- on `xw`, `a = ${ "x" ~ b }` with b = { c | "y" } expects b: the call of c began where that of b did. Where
-- b is Silent it expects c, and so it does where b takes a `w` before c
pub record ExpectsTheOuter (classes : Classes) : Type 0 where
  pub of_both : Expects (above_b_and_c CompoundAtomic (Seq (Str (codes "x")) (Ident (codes "b")))
      Normal (Choice (Ident (codes "c")) (Str (codes "y")))) classes (codes "xw") (codes "b" ∷ [])
  pub below_silent : Expects (above_b_and_c CompoundAtomic (Seq (Str (codes "x")) (Ident (codes "b")))
      Silent (Choice (Ident (codes "c")) (Str (codes "y")))) classes (codes "xw") (codes "c" ∷ [])
  pub further_on : Expects (above_b_and_c CompoundAtomic (Seq (Str (codes "x")) (Ident (codes "b")))
      Normal (Seq (Str (codes "w")) (Ident (codes "c")))) classes (codes "xw") (codes "c" ∷ [])

-- on `xw`, `a = ${ "x" ~ (b | c) }` expects both, in this order, and EOI with them where it is asked for
-- first
pub record ExpectsAll (classes : Classes) : Type 0 where
  pub both : Expects (above_b_and_c CompoundAtomic
      (Seq (Str (codes "x")) (Choice (Ident (codes "b")) (Ident (codes "c"))))
      Normal (Str (codes "y"))) classes (codes "xw") (codes "b" ∷ codes "c" ∷ [])
  pub the_end : Expects (above_b_and_c CompoundAtomic
      (Seq (Str (codes "x")) (Choice (Ident (codes "EOI")) (Ident (codes "c"))))
      Normal (Str (codes "y"))) classes (codes "xw") (codes "EOI" ∷ codes "c" ∷ [])

-- on `xw`, `a = ${ "x" ~ !b ~ c }` expects c alone, and `a = ${ "x" ~ &b ~ c }` expects b; if `!b` alone
-- got that far, as in `a = ${ "x" ~ !b ~ "y" }`, nothing is expected
pub record NoneBelowNot (classes : Classes) : Type 0 where
  pub below_not : Expects (above_b_and_c CompoundAtomic
      (Seq (Str (codes "x")) (Seq (NegPred (Ident (codes "b"))) (Ident (codes "c"))))
      Normal (Str (codes "y"))) classes (codes "xw") (codes "c" ∷ [])
  pub below_and : Expects (above_b_and_c CompoundAtomic
      (Seq (Str (codes "x")) (Seq (PosPred (Ident (codes "b"))) (Ident (codes "c"))))
      Normal (Str (codes "y"))) classes (codes "xw") (codes "b" ∷ [])
  pub nothing_left : Expects (above_b_and_c CompoundAtomic
      (Seq (Str (codes "x")) (Seq (NegPred (Ident (codes "b"))) (Str (codes "y"))))
      Normal (Str (codes "y"))) classes (codes "xw") []

-- on `xw`, the Atomic `a = @{ "x" ~ b }` expects itself, at the start: in it no call counts
abbrev pub NoneInAtomic : Classes → Type 0
NoneInAtomic classes = Expects (above_b_and_c Atomic (Seq (Str (codes "x")) (Ident (codes "b")))
    Normal (Str (codes "y"))) classes (codes "xw") (codes "a" ∷ [])

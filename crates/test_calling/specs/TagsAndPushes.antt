-- Outcomes of tags and literal pushes.
use Rattle.std.specs.Prelude.{◌≡◌, ◌↔◌, [], ◌∷◌, codes}
use Rattle.base_language.specs.Language.Text.{Text}
use Rattle.base_language.specs.Language.Expression.{Expression, Str, Ident, Seq, Choice, PushLiteral, NodeTag, Normal, CompoundAtomic, Grammar}
use Rattle.base_language.specs.Language.State.{Mode, NonAtomicMode, AtomicMode, State, None', Tree, Outcome, Success, Failure, Classes}
use Rattle.base_language.specs.Language.Meaning.{Matches}
use Rattle.base_language.specs.Language.LooseMeaning.{Done, Lost, MatchesLoosely}
use Rattle.test_calling.specs.SmallGrammars.{at_start, stacked, end_of, ends_at}
use Rattle.test_calling.specs.ExpectedPlaces.{Expects, above_b_and_c}

-- a = ${ PUSH_LITERAL("x") ~ b }  b = { "y" }
abbrev pub pushing : Grammar
pushing =
    record {
      name = codes "a";
      type_of = CompoundAtomic;
      body = Seq (PushLiteral (codes "x")) (Ident (codes "b"));
    }
    ∷ record { name = codes "b"; type_of = Normal; body = Str (codes "y") }
    ∷ []

-- a literal push pushes its text, be it empty or at the end of the input, and takes nothing; no other
-- outcome exists, and no tree; a POP after it takes the text; if a sequence fails after it, its text is
-- off the stack again
pub record LiteralPushes (classes : Classes) : Type 0 where
  pub pushes : Matches [] classes (PushLiteral (codes "x")) NonAtomicMode (stacked (codes "y"))
      (ends_at (record { position = 0; rest = codes "y"; stack = codes "x" ∷ codes "b" ∷ codes "a" ∷ [] }))
  pub the_empty_text : Matches [] classes (PushLiteral []) NonAtomicMode (at_start [])
      (ends_at (record { position = 0; rest = []; stack = [] ∷ [] }))
  pub nothing_else : (g : Grammar) (t : Text) (m : Mode) (s : State) (o : Outcome)
      → Matches g classes (PushLiteral t) m s o
      → o ≡ ends_at (record { position = s.position; rest = s.rest; stack = t ∷ s.stack })
  pub popped : Matches [] classes (Seq (PushLiteral (codes "x")) (Ident (codes "POP"))) AtomicMode
      (at_start (codes "x")) (ends_at (end_of 1 (at_start [])))
  pub given_back : Matches [] classes
      (Choice (Seq (PushLiteral (codes "x")) (Str (codes "y"))) (Ident (codes "PEEK"))) AtomicMode
      (stacked (codes "b")) (ends_at (end_of 1 (stacked [])))
  pub no_tree : Matches pushing classes (Ident (codes "a")) NonAtomicMode (at_start (codes "y"))
      (Success (record { position = 1; rest = []; stack = codes "x" ∷ [] })
      (Tree (codes "a") 0 1 (Tree (codes "b") 0 1 None' None') None'))
  pub loosely : MatchesLoosely [] classes (PushLiteral (codes "x")) NonAtomicMode (at_start (codes "y"))
      (Done (record { position = 0; rest = codes "y"; stack = codes "x" ∷ [] }) None')

-- a = { #t = b }  b = { "x" }
abbrev pub tagged : Grammar
tagged =
    record { name = codes "a"; type_of = Normal; body = NodeTag (Ident (codes "b")) (codes "t") }
    ∷ record { name = codes "b"; type_of = Normal; body = Str (codes "x") }
    ∷ []

-- a tag means the expression in it, in every grammar and from every state, and trees are as without it; a
-- failed POP in it loses its entry; a failed call in it is expected, as without it
pub record TagsMeanNothing (classes : Classes) : Type 0 where
  pub same_outcomes : (g : Grammar) (e : Expression) (t : Text) (m : Mode) (s : State) (o : Outcome)
      → Matches g classes (NodeTag e t) m s o ↔ Matches g classes e m s o
  pub same_trees : Matches tagged classes (Ident (codes "a")) NonAtomicMode (at_start (codes "x"))
      (Success (end_of 1 (at_start [])) (Tree (codes "a") 0 1 (Tree (codes "b") 0 1 None' None') None'))
  pub fails : Matches tagged classes (Ident (codes "a")) NonAtomicMode (at_start (codes "y")) Failure
  pub loses : (t : Text) → MatchesLoosely [] classes (NodeTag (Ident (codes "POP")) t) NonAtomicMode
      (stacked (codes "a")) (Lost (codes "a" ∷ []))
  pub expected : (t : Text) → Expects (above_b_and_c CompoundAtomic
      (Seq (Str (codes "x")) (NodeTag (Ident (codes "b")) t))
      Normal (Str (codes "y"))) classes (codes "xw") (codes "b" ∷ [])

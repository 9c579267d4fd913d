-- Small grammars and single expressions, and their outcomes.
use Rattle.std.specs.Prelude.{ℕ, Some, None, pos, negsuc, [], ◌∷◌, codes}
use Rattle.base_language.specs.Language.Text.{Text}
use Rattle.base_language.specs.Language.Expression.{Expression, Str, Ident, Seq, Choice, Opt, Rep, RepOnce, Normal, Silent, CompoundAtomic, NonAtomic, Grammar, Atomic, Insens, PeekSlice, PosPred, NegPred, Push, Range, RepMinMax, Skip, RuleType}
use Rattle.base_language.specs.Language.State.{Mode, NonAtomicMode, AtomicMode, CompoundAtomicMode, Between, IsRuleMode, State, None', Tree, Outcome, Success, Failure, Classes}
use Rattle.base_language.specs.Language.Meaning.{Matches}

-- ("a" ~ "b")* ~ "a"
abbrev pub spelled_body : Expression
spelled_body = Seq (Rep (Seq (Str (codes "a")) (Str (codes "b")))) (Str (codes "a"))

-- "a" ~ ("b" ~ "a")*
abbrev pub listed_body : Expression
listed_body = Seq (Str (codes "a")) (Rep (Seq (Str (codes "b")) (Str (codes "a"))))

-- r = ${ ("a" ~ "b")* ~ "a" }, and the same rule listed
abbrev pub spelled_grammar : Grammar
spelled_grammar = record { name = codes "r"; type_of = CompoundAtomic; body = spelled_body } ∷ []

abbrev pub listed_grammar : Grammar
listed_grammar = record { name = codes "r"; type_of = CompoundAtomic; body = listed_body } ∷ []

-- WHITESPACE = _{ " " } a = { "x"+ }
abbrev pub blanks : Grammar
blanks =
    record { name = codes "WHITESPACE"; type_of = Silent; body = Str (codes " ") }
    ∷ record { name = codes "a"; type_of = Normal; body = RepOnce (Str (codes "x")) }
    ∷ []

-- WHITESPACE = _{ b } b = !{ "x"? ~ "y" }
abbrev pub endless : Grammar
endless =
    record { name = codes "WHITESPACE"; type_of = Silent; body = Ident (codes "b") }
    ∷ record { name = codes "b"; type_of = NonAtomic; body = Seq (Opt (Str (codes "x"))) (Str (codes "y")) }
    ∷ []

-- at the start of a text, with the empty stack
abbrev pub at_start : Text → State
at_start t = record { position = 0; rest = t; stack = [] }

-- on `ab` the rule as it is spelled fails, and the listed one ends at 1
abbrev pub ListingDiffers : Type 0
ListingDiffers = (classes : Classes) (m : Mode)
    → Matches spelled_grammar classes (Ident (codes "r")) m (at_start (codes "ab")) Failure
    × Matches listed_grammar classes (Ident (codes "r")) m (at_start (codes "ab"))
    (Success (record { position = 1; rest = codes "b"; stack = [] }) (Tree (codes "r") 0 1 None' None'))

-- on `x` and a blank, `a` ends after the blank
abbrev pub BlankIsTaken : Type 0
BlankIsTaken = (classes : Classes) → Matches blanks classes (Ident (codes "a")) NonAtomicMode
    (at_start (codes "x "))
    (Success (record { position = 2; rest = []; stack = [] }) (Tree (codes "a") 0 2 None' None'))

-- on `y`, `b` has no outcome
abbrev pub HasNone : Type 0
HasNone = (classes : Classes) (m : Mode) (o : Outcome)
    → Matches endless classes (Ident (codes "b")) m (at_start (codes "y")) o → ⊥

-- the start of a text with a stack of two entries, "a" pushed before "b"
abbrev pub stacked : Text → State
stacked t = record { position = 0; rest = t; stack = codes "b" ∷ codes "a" ∷ [] }

-- at the end of a text of n bytes, with the stack as it was
abbrev pub end_of : ℕ → State → State
end_of n s = record { position = n; rest = []; stack = s.stack }

-- a success that gives no tokens
abbrev pub ends_at : State → Outcome
ends_at s = Success s None'

-- on an empty stack PEEK and POP have no outcome, DROP fails, and PEEK_ALL and POP_ALL match nothing;
-- in `Between` PEEK and POP fail
pub record ReadsEmptyStack (classes : Classes) : Type 0 where
  pub peek : (o : Outcome)
      → Matches [] classes (Ident (codes "PEEK")) NonAtomicMode (at_start (codes "a")) o → ⊥
  pub pop : (o : Outcome)
      → Matches [] classes (Ident (codes "POP")) NonAtomicMode (at_start (codes "a")) o → ⊥
  pub peek_between : Matches [] classes (Ident (codes "PEEK")) Between (at_start (codes "a")) Failure
  pub pop_between : Matches [] classes (Ident (codes "POP")) Between (at_start (codes "a")) Failure
  pub drop : Matches [] classes (Ident (codes "DROP")) NonAtomicMode (at_start (codes "a")) Failure
  pub peek_all : Matches [] classes (Ident (codes "PEEK_ALL")) NonAtomicMode (at_start (codes "a"))
      (ends_at (at_start (codes "a")))
  pub pop_all : Matches [] classes (Ident (codes "POP_ALL")) NonAtomicMode (at_start (codes "a"))
      (ends_at (at_start (codes "a")))

-- PEEK_ALL matches from the top down, a slice from the bottom up
pub record OrdersOfTheStack (classes : Classes) : Type 0 where
  pub peek_all : Matches [] classes (Ident (codes "PEEK_ALL")) NonAtomicMode (stacked (codes "ba"))
      (ends_at (end_of 2 (stacked [])))
  pub peek_all_fails : Matches [] classes (Ident (codes "PEEK_ALL")) NonAtomicMode (stacked (codes "ab"))
      Failure
  pub slice : Matches [] classes (PeekSlice (pos 0) None) NonAtomicMode (stacked (codes "ab"))
      (ends_at (end_of 2 (stacked [])))
  pub slice_fails : Matches [] classes (PeekSlice (pos 0) None) NonAtomicMode (stacked (codes "ba")) Failure

-- a negative number counts from the stack's length: -1 is the top; -3 is below two entries; an end before
-- the start matches nothing
pub record NegativeSlices (classes : Classes) : Type 0 where
  pub top : Matches [] classes (PeekSlice (negsuc 0) None) NonAtomicMode (stacked (codes "b"))
      (ends_at (end_of 1 (stacked [])))
  pub below : Matches [] classes (PeekSlice (negsuc 2) None) NonAtomicMode (stacked (codes "b")) Failure
  pub reversed : Matches [] classes (PeekSlice (pos 2) (Some (negsuc 0))) NonAtomicMode (stacked (codes "b"))
      (ends_at (stacked (codes "b")))

-- a = ${ b }  b = @{ "x" }  c = @{ b }
abbrev pub tokens : Grammar
tokens =
    record { name = codes "a"; type_of = CompoundAtomic; body = Ident (codes "b") }
    ∷ record { name = codes "b"; type_of = Atomic; body = Str (codes "x") }
    ∷ record { name = codes "c"; type_of = Atomic; body = Ident (codes "b") }
    ∷ []

-- an atomic rule gives its token to a compound-atomic one, and none to an atomic one
pub record TokensOfAtomicRules (classes : Classes) : Type 0 where
  pub in_compound : Matches tokens classes (Ident (codes "a")) NonAtomicMode (at_start (codes "x"))
      (Success (end_of 1 (at_start [])) (Tree (codes "a") 0 1 (Tree (codes "b") 0 1 None' None') None'))
  pub in_atomic : Matches tokens classes (Ident (codes "c")) NonAtomicMode (at_start (codes "x"))
      (Success (end_of 1 (at_start [])) (Tree (codes "c") 0 1 None' None'))

-- a predicate that pushes leaves the stack as it was
abbrev pub PredicateRestores : Classes → Type 0
PredicateRestores classes = Matches [] classes (PosPred (Push (Str (codes "a")))) NonAtomicMode
    (at_start (codes "a")) (ends_at (at_start (codes "a")))

-- PUSH pushes the text that was matched
abbrev pub PushPushes : Classes → Type 0
PushPushes classes = Matches [] classes (Push (Str (codes "a"))) NonAtomicMode (at_start (codes "ab"))
    (ends_at (record { position = 1; rest = codes "b"; stack = codes "a" ∷ [] }))

-- `Skip` stays if the empty text is among its strings, goes to the end if none occurs, and stays at the end
pub record Skips (classes : Classes) : Type 0 where
  pub empty : Matches [] classes (Skip (codes "x" ∷ [] ∷ [])) AtomicMode (at_start (codes "ab"))
      (ends_at (at_start (codes "ab")))
  pub none : Matches [] classes (Skip (codes "x" ∷ [])) AtomicMode (at_start (codes "ab"))
      (ends_at (end_of 2 (at_start [])))
  pub at_end : Matches [] classes (Skip (codes "x" ∷ [] ∷ [])) AtomicMode (at_start [])
      (ends_at (at_start []))
  pub found : Matches [] classes (Skip (codes "x" ∷ codes "b" ∷ [])) AtomicMode (at_start (codes "ab"))
      (ends_at (record { position = 1; rest = codes "b"; stack = [] }))

-- NEWLINE takes a carriage return and the line feed after it, and a carriage return alone
pub record Newlines (classes : Classes) : Type 0 where
  pub both : Matches [] classes (Ident (codes "NEWLINE")) NonAtomicMode (at_start (13 ∷ 10 ∷ []))
      (ends_at (end_of 2 (at_start [])))
  pub alone : Matches [] classes (Ident (codes "NEWLINE")) NonAtomicMode (at_start (13 ∷ []))
      (ends_at (end_of 1 (at_start [])))

-- a range with an empty bound, or whose first bound is above its second, fails
pub record RangesThatFail (classes : Classes) : Type 0 where
  pub empty_bound : Matches [] classes (Range [] (codes "z")) NonAtomicMode (at_start (codes "a")) Failure
  pub reversed : Matches [] classes (Range (codes "z") (codes "a")) NonAtomicMode (at_start (codes "b"))
      Failure

-- WHITESPACE = { " " }  a = { "x" ~ "y" }
abbrev pub visible_blanks : Grammar
visible_blanks =
    record { name = codes "WHITESPACE"; type_of = Normal; body = Str (codes " ") }
    ∷ record { name = codes "a"; type_of = Normal; body = Seq (Str (codes "x")) (Str (codes "y")) }
    ∷ []

-- a Normal WHITESPACE gives a token for each blank that is skipped
abbrev pub BlankGivesToken : Classes → Type 0
BlankGivesToken classes = Matches visible_blanks classes (Ident (codes "a")) NonAtomicMode
    (at_start (codes "x y")) (Success (end_of 3 (at_start []))
    (Tree (codes "a") 0 3 (Tree (codes "WHITESPACE") 1 2 None' None') None'))

-- WHITESPACE = _{ " " }  a = @{ b }  b = !{ "x" ~ "y" }
abbrev pub skips_inside : Grammar
skips_inside =
    record { name = codes "WHITESPACE"; type_of = Silent; body = Str (codes " ") }
    ∷ record { name = codes "a"; type_of = Atomic; body = Ident (codes "b") }
    ∷ record { name = codes "b"; type_of = NonAtomic; body = Seq (Str (codes "x")) (Str (codes "y")) }
    ∷ []

-- a `!` rule skips, and gives its token, inside an atomic one too
abbrev pub NonAtomicInside : Classes → Type 0
NonAtomicInside classes = Matches skips_inside classes (Ident (codes "a")) NonAtomicMode
    (at_start (codes "x y")) (Success (end_of 3 (at_start []))
    (Tree (codes "a") 0 3 (Tree (codes "b") 0 3 None' None') None'))

-- a = { "x" }  a = { "y" }
abbrev pub defined_twice : Grammar
defined_twice =
    record { name = codes "a"; type_of = Normal; body = Str (codes "x") }
    ∷ record { name = codes "a"; type_of = Normal; body = Str (codes "y") }
    ∷ []

-- a name means the last rule of that name
abbrev pub LastRuleIsMeant : Classes → Type 0
LastRuleIsMeant classes = Matches defined_twice classes (Ident (codes "a")) NonAtomicMode
    (at_start (codes "y")) (Success (end_of 1 (at_start [])) (Tree (codes "a") 0 1 None' None'))

-- `"x"{3,2}` is two copies, both required; `^"ab"` matches `aB`
pub record OtherReadings (classes : Classes) : Type 0 where
  pub counts_reversed : Matches [] classes (RepMinMax (Str (codes "x")) 3 2) AtomicMode
      (at_start (codes "xx")) (ends_at (end_of 2 (at_start [])))
  pub one_is_missing : Matches [] classes (RepMinMax (Str (codes "x")) 3 2) AtomicMode (at_start (codes "x"))
      Failure
  pub insensitive : Matches [] classes (Insens (codes "ab")) AtomicMode (at_start (codes "aB"))
      (ends_at (end_of 2 (at_start [])))

-- above two entries PEEK matches the top, POP also removes it, DROP removes it and takes nothing
pub record ReadsTheTop (classes : Classes) : Type 0 where
  pub peek : Matches [] classes (Ident (codes "PEEK")) NonAtomicMode (stacked (codes "b"))
      (ends_at (end_of 1 (stacked [])))
  pub peek_fails : Matches [] classes (Ident (codes "PEEK")) NonAtomicMode (stacked (codes "a")) Failure
  pub pop : Matches [] classes (Ident (codes "POP")) NonAtomicMode (stacked (codes "b"))
      (ends_at (record { position = 1; rest = []; stack = codes "a" ∷ [] }))
  pub pop_fails : Matches [] classes (Ident (codes "POP")) NonAtomicMode (stacked (codes "a")) Failure
  pub drop : Matches [] classes (Ident (codes "DROP")) NonAtomicMode (stacked (codes "x"))
      (ends_at (record { position = 0; rest = codes "x"; stack = codes "a" ∷ [] }))

-- POP_ALL matches from the top down, and then empties the stack
pub record EmptiesTheStack (classes : Classes) : Type 0 where
  pub pop_all : Matches [] classes (Ident (codes "POP_ALL")) NonAtomicMode (stacked (codes "ba"))
      (ends_at (end_of 2 (at_start [])))
  pub pop_all_fails : Matches [] classes (Ident (codes "POP_ALL")) NonAtomicMode (stacked (codes "ab"))
      Failure

-- `!"a"` succeeds where `"a"` fails, and takes nothing; if `"a"` succeeds, it fails
pub record NegativePredicates (classes : Classes) : Type 0 where
  pub holds : Matches [] classes (NegPred (Str (codes "a"))) NonAtomicMode (at_start (codes "b"))
      (ends_at (at_start (codes "b")))
  pub fails : Matches [] classes (NegPred (Str (codes "a"))) NonAtomicMode (at_start (codes "a")) Failure

-- a second alternative is tried after the first has failed, from the same position, and only then
pub record Alternatives (classes : Classes) : Type 0 where
  pub second : Matches [] classes
      (Choice (Seq (Str (codes "a")) (Str (codes "b"))) (Str (codes "ac"))) AtomicMode
      (at_start (codes "ac")) (ends_at (end_of 2 (at_start [])))
  pub first : Matches [] classes (Choice (Str (codes "a")) (Str (codes "ab"))) AtomicMode
      (at_start (codes "ab")) (ends_at (record { position = 1; rest = codes "b"; stack = [] }))
  pub neither : Matches [] classes (Choice (Str (codes "a")) (Str (codes "b"))) AtomicMode
      (at_start (codes "c")) Failure

-- WHITESPACE = _{ " " }  COMMENT = { "#" }  a = { "x" ~ "y" }
abbrev pub commented : Grammar
commented =
    record { name = codes "WHITESPACE"; type_of = Silent; body = Str (codes " ") }
    ∷ record { name = codes "COMMENT"; type_of = Normal; body = Str (codes "#") }
    ∷ record { name = codes "a"; type_of = Normal; body = Seq (Str (codes "x")) (Str (codes "y")) }
    ∷ []

-- comments are skipped with blanks before, between and after them
abbrev pub CommentsAreSkipped : Classes → Type 0
CommentsAreSkipped classes = Matches commented classes (Ident (codes "a")) NonAtomicMode
    (at_start (codes "x # # y")) (Success (end_of 7 (at_start []))
    (Tree (codes "a") 0 7 (Tree (codes "COMMENT") 2 3 None' (Tree (codes "COMMENT") 4 5 None' None')) None'))

-- a name that is neither a rule's nor a builtin's has no outcome where rules run,
-- and fails where the skipping calls it
pub record UndefinedNames (classes : Classes) : Type 0 where
  pub none : (m : Mode) (s : State) (o : Outcome) → IsRuleMode m
      → Matches [] classes (Ident (codes "a")) m s o → ⊥
  pub between_fails : (s : State) → Matches [] classes (Ident (codes "a")) Between s Failure

-- WHITESPACE = !{ " " ~ "." }  a = { "x" ~ "y" }  b = @{ WHITESPACE }
abbrev pub loud_blanks : Grammar
loud_blanks =
    record { name = codes "WHITESPACE"; type_of = NonAtomic; body = Seq (Str (codes " ")) (Str (codes ".")) }
    ∷ record { name = codes "a"; type_of = Normal; body = Seq (Str (codes "x")) (Str (codes "y")) }
    ∷ record { name = codes "b"; type_of = Atomic; body = Ident (codes "WHITESPACE") }
    ∷ []

-- a WHITESPACE declared `!` skips nothing inside, so it runs Atomic, and gives its token in Atomic too
pub record LoudBlanks (classes : Classes) : Type 0 where
  pub runs_atomic : Matches loud_blanks classes (Ident (codes "a")) NonAtomicMode (at_start (codes "x .y"))
      (Success (end_of 4 (at_start []))
      (Tree (codes "a") 0 4 (Tree (codes "WHITESPACE") 1 3 None' None') None'))
  pub skips_nothing : Matches loud_blanks classes (Ident (codes "WHITESPACE")) NonAtomicMode
      (at_start (codes "  ..")) Failure
  pub token_in_atomic : Matches loud_blanks classes (Ident (codes "b")) NonAtomicMode (at_start (codes " ."))
      (Success (end_of 2 (at_start []))
      (Tree (codes "b") 0 2 (Tree (codes "WHITESPACE") 0 2 None' None') None'))

-- a slice whose number is past two entries fails; at their number it matches nothing
pub record SlicesPastTheLength (classes : Classes) : Type 0 where
  pub start_past : Matches [] classes (PeekSlice (pos 3) None) NonAtomicMode (stacked (codes "ab")) Failure
  pub end_past : Matches [] classes (PeekSlice (pos 0) (Some (pos 3))) NonAtomicMode (stacked (codes "ab"))
      Failure
  pub end_below : Matches [] classes (PeekSlice (pos 0) (Some (negsuc 2))) NonAtomicMode
      (stacked (codes "ab")) Failure
  pub at_length : Matches [] classes (PeekSlice (pos 2) None) NonAtomicMode (stacked (codes "ab"))
      (ends_at (stacked (codes "ab")))

-- EOI gives a token in NonAtomic and CompoundAtomic, and none in Atomic; before a character it fails
pub record TokensOfTheEnd (classes : Classes) : Type 0 where
  pub in_non_atomic : Matches [] classes (Ident (codes "EOI")) NonAtomicMode (at_start [])
      (Success (at_start []) (Tree (codes "EOI") 0 0 None' None'))
  pub in_compound_atomic : Matches [] classes (Ident (codes "EOI")) CompoundAtomicMode (at_start [])
      (Success (at_start []) (Tree (codes "EOI") 0 0 None' None'))
  pub in_atomic : Matches [] classes (Ident (codes "EOI")) AtomicMode (at_start []) (ends_at (at_start []))
  pub before_the_end : Matches [] classes (Ident (codes "EOI")) NonAtomicMode (at_start (codes "a")) Failure

-- a = @{ b }  b = ${ "x" }
abbrev pub compound_inside : Grammar
compound_inside =
    record { name = codes "a"; type_of = Atomic; body = Ident (codes "b") }
    ∷ record { name = codes "b"; type_of = CompoundAtomic; body = Str (codes "x") }
    ∷ []

-- a `$` rule gives its token inside an atomic one too
abbrev pub CompoundInsideAtomic : Classes → Type 0
CompoundInsideAtomic classes = Matches compound_inside classes (Ident (codes "a")) NonAtomicMode
    (at_start (codes "x")) (Success (end_of 1 (at_start []))
    (Tree (codes "a") 0 1 (Tree (codes "b") 0 1 None' None') None'))

-- a COMMENT of some type with the body "#" ~ w;  w = { "w" }  a = { "x" ~ "y" }
abbrev pub wordy_comments : RuleType → Grammar
wordy_comments type_of =
    record { name = codes "COMMENT"; type_of = type_of; body = Seq (Str (codes "#")) (Ident (codes "w")) }
    ∷ record { name = codes "w"; type_of = Normal; body = Str (codes "w") }
    ∷ record { name = codes "a"; type_of = Normal; body = Seq (Str (codes "x")) (Str (codes "y")) }
    ∷ []

-- a COMMENT declared `$` runs CompoundAtomic, so its calls give tokens; another runs Atomic, and there they
-- give none
pub record CompoundComments (classes : Classes) : Type 0 where
  pub declared : Matches (wordy_comments CompoundAtomic) classes (Ident (codes "a")) NonAtomicMode
      (at_start (codes "x#wy")) (Success (end_of 4 (at_start []))
      (Tree (codes "a") 0 4 (Tree (codes "COMMENT") 1 3 (Tree (codes "w") 2 3 None' None') None') None'))
  pub plain : Matches (wordy_comments Normal) classes (Ident (codes "a")) NonAtomicMode
      (at_start (codes "x#wy")) (Success (end_of 4 (at_start []))
      (Tree (codes "a") 0 4 (Tree (codes "COMMENT") 1 3 None' None') None'))

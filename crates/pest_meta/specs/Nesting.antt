-- Sequences and choices nested to the right, as the rotations leave them.
use Rattle.std.specs.Prelude.{map}
use Rattle.base_language.specs.Language.Expression.{Expression, Rule, Grammar, PosPred, NegPred, Seq, Choice, Opt, Rep, RepOnce, RepExact, RepMin, RepMax, RepMinMax, Push, RestoreOnErr, NodeTag}

-- one expression after another, if the first is nested to the right already
abbrev pub sequence_of : Expression → Expression → Expression
sequence_of (Seq a b) c = Seq a (sequence_of b c)
sequence_of a c = Seq a c

-- one choice after another, if the first is nested to the right already
abbrev pub choice_of : Expression → Expression → Expression
choice_of (Choice a b) c = Choice a (choice_of b c)
choice_of a c = Choice a c

-- no sequence is on the left of a sequence any more, and no choice on the left of a choice
abbrev pub nested_right : Expression → Expression
nested_right (Seq a b) = sequence_of (nested_right a) (nested_right b)
nested_right (Choice a b) = choice_of (nested_right a) (nested_right b)
nested_right (PosPred e) = PosPred (nested_right e)
nested_right (NegPred e) = NegPred (nested_right e)
nested_right (Opt e) = Opt (nested_right e)
nested_right (Rep e) = Rep (nested_right e)
nested_right (RepOnce e) = RepOnce (nested_right e)
nested_right (RepExact e i) = RepExact (nested_right e) i
nested_right (RepMin e i) = RepMin (nested_right e) i
nested_right (RepMax e i) = RepMax (nested_right e) i
nested_right (RepMinMax e i j) = RepMinMax (nested_right e) i j
nested_right (Push e) = Push (nested_right e)
nested_right (NodeTag e t) = NodeTag (nested_right e) t
nested_right (RestoreOnErr e) = RestoreOnErr (nested_right e)
nested_right e = e

-- the body of a rule nested so, and those of all rules
abbrev pub nested_rule : Rule → Rule
nested_rule r = record { name = r.name; type_of = r.type_of; body = nested_right r.body }

abbrev pub nested_rules : Grammar → Grammar
nested_rules rs = map nested_rule rs

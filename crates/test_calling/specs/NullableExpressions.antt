-- Which single expressions are nullable, which cannot fail, and which names they left-call.
use Rattle.std.specs.Prelude.{[], codes}
use Rattle.base_language.specs.Language.Text.{Text}
use Rattle.base_language.specs.Language.Expression.{Expression, Str, Insens, Ident, PosPred, NegPred, Seq, Opt, RepMin, RepMinMax, PushLiteral, NodeTag}
use Rattle.base_language.specs.Language.WellFormed.{IsNullable, CannotFail, LeftCalls}

-- by the rules of IsNullable, if no name is a rule's
pub record NullableOrNot : Type 0 where
  pub empty_literal : IsNullable [] (Str [])
  pub empty_insensitive : IsNullable [] (Insens [])
  pub literal : IsNullable [] (Str (codes "x")) → ⊥
  pub pos_pred : (e : Expression) → IsNullable [] (PosPred e)
  pub neg_pred : (e : Expression) → IsNullable [] (NegPred e)
  pub at_least_none : (e : Expression) → IsNullable [] (RepMin e 0)
  pub at_least_one : IsNullable [] (RepMin (Str (codes "x")) 1) → ⊥
  pub two_to_one : IsNullable [] (RepMinMax (Str (codes "x")) 2 1) → ⊥
  pub one_to_none : IsNullable [] (RepMinMax (Str (codes "x")) 1 0) → ⊥
  pub none_to_one : (e : Expression) → IsNullable [] (RepMinMax e 0 1)
  pub soi : IsNullable [] (Ident (codes "SOI"))
  pub eoi : IsNullable [] (Ident (codes "EOI"))
  pub peek : IsNullable [] (Ident (codes "PEEK")) → ⊥
  pub pop : IsNullable [] (Ident (codes "POP")) → ⊥
  pub drop : IsNullable [] (Ident (codes "DROP")) → ⊥
  pub peek_all : IsNullable [] (Ident (codes "PEEK_ALL")) → ⊥
  pub pop_all : IsNullable [] (Ident (codes "POP_ALL")) → ⊥
  pub literal_push : (t : Text) → IsNullable [] (PushLiteral t)
  pub tagged_empty : (t : Text) → IsNullable [] (NodeTag (Str []) t)
  pub tagged_literal : (t : Text) → IsNullable [] (NodeTag (Str (codes "x")) t) → ⊥

-- by the rules of CannotFail, if no name is a rule's
pub record CannotFailOrMay : Type 0 where
  pub empty_literal : CannotFail [] (Str [])
  pub empty_insensitive : CannotFail [] (Insens [])
  pub literal : CannotFail [] (Str (codes "x")) → ⊥
  pub pos_pred : CannotFail [] (PosPred (Str []))
  pub pos_pred_of_literal : CannotFail [] (PosPred (Str (codes "x"))) → ⊥
  pub neg_pred : (e : Expression) → CannotFail [] (NegPred e) → ⊥
  pub at_least_none : (e : Expression) → CannotFail [] (RepMin e 0)
  pub at_least_one : CannotFail [] (RepMin (Str (codes "x")) 1) → ⊥
  pub two_to_one : CannotFail [] (RepMinMax (Str (codes "x")) 2 1) → ⊥
  pub none_to_one : (e : Expression) → CannotFail [] (RepMinMax e 0 1)
  pub builtin : (n : Text) → CannotFail [] (Ident n) → ⊥
  pub literal_push : (t : Text) → CannotFail [] (PushLiteral t)
  pub tagged_empty : (t : Text) → CannotFail [] (NodeTag (Str []) t)
  pub tagged_literal : (t : Text) → CannotFail [] (NodeTag (Str (codes "x")) t) → ⊥

-- below predicates and tags, and after a left side that is nullable
pub record LeftCalledOrNot : Type 0 where
  pub below_pos_pred : LeftCalls [] (PosPred (Ident (codes "a"))) (codes "a")
  pub below_neg_pred : LeftCalls [] (NegPred (Ident (codes "a"))) (codes "a")
  pub below_tag : (t : Text) → LeftCalls [] (NodeTag (Ident (codes "a")) t) (codes "a")
  pub behind_optional : LeftCalls [] (Seq (Opt (Str (codes "x"))) (Ident (codes "a"))) (codes "a")
  pub behind_predicate : LeftCalls [] (Seq (NegPred (Str (codes "x"))) (Ident (codes "a"))) (codes "a")
  pub behind_literal_push : (t : Text) → LeftCalls [] (Seq (PushLiteral t) (Ident (codes "a"))) (codes "a")
  pub behind_literal : LeftCalls [] (Seq (Str (codes "x")) (Ident (codes "a"))) (codes "a") → ⊥
  pub behind_peek : LeftCalls [] (Seq (Ident (codes "PEEK")) (Ident (codes "a"))) (codes "a") → ⊥

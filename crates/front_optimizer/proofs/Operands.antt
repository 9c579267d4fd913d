-- What holds of each operand.
use Rattle.std.specs.Prelude.{⊤}
use Rattle.base_language.specs.Language.Expression.{Expression, Str, Insens, Range, Ident, PeekSlice, PosPred, NegPred, Seq, Choice, Opt, Rep, RepOnce, RepExact, RepMin, RepMax, RepMinMax, Skip, Push, RestoreOnErr, PushLiteral, NodeTag}
use Rattle.front_optimizer.specs.Traversals.{HasNoOperands}

abbrev pub Operands : (Expression → Type 0) → Expression → Type 0
Operands P (PosPred e) = P e
Operands P (NegPred e) = P e
Operands P (Seq a b) = P a × P b
Operands P (Choice a b) = P a × P b
Operands P (Opt e) = P e
Operands P (Rep e) = P e
Operands P (RepOnce e) = P e
Operands P (RepExact e i) = P e
Operands P (RepMin e i) = P e
Operands P (RepMax e i) = P e
Operands P (RepMinMax e i j) = P e
Operands P (Push e) = P e
Operands P (NodeTag e t) = P e
Operands P (RestoreOnErr e) = P e
Operands P _ = ⊤

pub no_operands : (P : Expression → Type 0) (a : Expression) → HasNoOperands a → Operands P a
no_operands P (Str s) h = tt
no_operands P (Insens s) h = tt
no_operands P (Range s u) h = tt
no_operands P (Ident s) h = tt
no_operands P (PeekSlice i j) h = tt
no_operands P (Skip ss) h = tt
no_operands P (PushLiteral s) h = tt
no_operands P (PosPred e) h = absurd h
no_operands P (NegPred e) h = absurd h
no_operands P (Seq a b) h = absurd h
no_operands P (Choice a b) h = absurd h
no_operands P (Opt e) h = absurd h
no_operands P (Rep e) h = absurd h
no_operands P (RepOnce e) h = absurd h
no_operands P (RepExact e i) h = absurd h
no_operands P (RepMin e i) h = absurd h
no_operands P (RepMax e i) h = absurd h
no_operands P (RepMinMax e i j) h = absurd h
no_operands P (Push e) h = absurd h
no_operands P (NodeTag e t) h = absurd h
no_operands P (RestoreOnErr e) h = absurd h

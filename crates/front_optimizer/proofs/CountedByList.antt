-- Readable counts, while expressions wait to be looked at.
use Rattle.std.proofs.Common.{◌≡◌, List, [], ◌∷◌, ◌++◌, sym, subst}
use Rattle.std.specs.Prelude.{⊤}
use denote.Ref.{Bor}
use Rattle.base_language.specs.Language.Expression.{Expression}
use Rattle.base_language.specs.Language.WellFormed.{CountIsReadable}
use Rattle.base_ast.specs.Ast.{expression_of}
use Rattle.base_ast.specs.Operands.{operands}
use Rattle.base_ast.specs.declared.ast.Expr.{Expr, Str, Insens, Range, Ident, PeekSlice, PosPred', NegPred', Seq', Choice', Opt', Rep', RepOnce', RepExact', RepMin', RepMax', RepMinMax', Skip, Push', PushLiteral, NodeTag'}
use Rattle.front_optimizer.specs.Counts.{PartsAreReadable}
use Rattle.front_optimizer.proofs.Counted.{at_root}

abbrev EachReadable : List Expression → Type 0
EachReadable [] = ⊤
EachReadable (a ∷ xs) = PartsAreReadable a × EachReadable xs

over_operands : (x : Expr) → CountIsReadable (expression_of x) → EachReadable (operands (expression_of x)) → PartsAreReadable (expression_of x)
over_operands (Str s) r none = tt
over_operands (Insens s) r none = tt
over_operands (Range s t) r none = tt
over_operands (Ident s) r none = tt
over_operands (PeekSlice i j) r none = tt
over_operands (Skip ss) r none = tt
over_operands (PushLiteral u) r none = tt
over_operands (PosPred' p y) r (h, t) = h
over_operands (NegPred' p y) r (h, t) = h
over_operands (Opt' p y) r (h, t) = h
over_operands (Rep' p y) r (h, t) = h
over_operands (RepOnce' p y) r (h, t) = h
over_operands (RepExact' p y i) r (h, t) = (r, h)
over_operands (RepMin' p y i) r (h, t) = h
over_operands (RepMax' p y i) r (h, t) = (r, h)
over_operands (RepMinMax' p y i j) r (h, t) = (r, h)
over_operands (Push' p y) r (h, t) = h
over_operands (NodeTag' p y u) r (h, t) = h
over_operands (Seq' p y q z) r (h, (k, none)) = (h, k)
over_operands (Choice' p y q z) r (h, (k, none)) = (h, k)

at_operands : (x : Expr) → PartsAreReadable (expression_of x) → EachReadable (operands (expression_of x))
at_operands (Str s) h = tt
at_operands (Insens s) h = tt
at_operands (Range s t) h = tt
at_operands (Ident s) h = tt
at_operands (PeekSlice i j) h = tt
at_operands (Skip ss) h = tt
at_operands (PushLiteral u) h = tt
at_operands (PosPred' p y) h = (h, tt)
at_operands (NegPred' p y) h = (h, tt)
at_operands (Opt' p y) h = (h, tt)
at_operands (Rep' p y) h = (h, tt)
at_operands (RepOnce' p y) h = (h, tt)
at_operands (RepExact' p y i) h = (h.1, tt)
at_operands (RepMin' p y i) h = (h, tt)
at_operands (RepMax' p y i) h = (h.1, tt)
at_operands (RepMinMax' p y i j) h = (h.1, tt)
at_operands (Push' p y) h = (h, tt)
at_operands (NodeTag' p y u) h = (h, tt)
at_operands (Seq' p y q z) h = (h.0, (h.1, tt))
at_operands (Choice' p y q z) h = (h.0, (h.1, tt))

abbrev AllWait : List (Bor Expr) → Type 0
AllWait [] = ⊤
AllWait (x ∷ xs) = PartsAreReadable (expression_of x.now) × AllWait xs

waiting_last : (xs : List (Bor Expr)) (x : Bor Expr) → AllWait xs → PartsAreReadable (expression_of x.now) → AllWait (xs ++ x ∷ [])
waiting_last [] x w h = (h, tt)
waiting_last (y ∷ xs) x w h = (w.0, waiting_last xs x w.1 h)

waiting_front : (xs : List (Bor Expr)) (x : Bor Expr) → AllWait (xs ++ x ∷ []) → AllWait xs × PartsAreReadable (expression_of x.now)
waiting_front [] x w = (tt, w.0)
waiting_front (y ∷ xs) x w = let r = waiting_front xs x w.1 in ((w.0, r.0), r.1)

-- the whole is readable exactly if all that waits is
pub record Waits (whole : Expression) (xs : List (Bor Expr)) : Type 0 where
  pub gives : AllWait xs → PartsAreReadable whole
  pub has : PartsAreReadable whole → AllWait xs

pub begun : (x : Bor Expr) → Waits (expression_of x.now) (x ∷ [])
begun x = record { gives = λ w. w.0; has = λ h. (h, tt) }

pub ended : {whole : Expression} → Waits whole [] → PartsAreReadable whole
ended w = w.gives tt

module _ {whole : Expression} (xs : List (Bor Expr)) (x : Bor Expr) (w : Waits whole (xs ++ x ∷ [])) where
  pub refused : (CountIsReadable (expression_of x.now) → ⊥) → PartsAreReadable whole → ⊥
  refused n h = n (at_root (expression_of x.now) (waiting_front xs x (w.has h)).1)

  -- in the place of an expression its operands wait
  module _ (r : CountIsReadable (expression_of x.now)) where
    pub no_operands : [] ≡ operands (expression_of x.now) → Waits whole xs
    no_operands o = record {
      gives = λ u. w.gives (waiting_last xs x u (over_operands x.now r (subst EachReadable o tt)));
      has = λ h. (waiting_front xs x (w.has h)).0;
    }

    pub one_operand : (a : Bor Expr) → expression_of a.now ∷ [] ≡ operands (expression_of x.now) → Waits whole (xs ++ a ∷ [])
    one_operand a o = record {
      gives = λ u. let k = waiting_front xs a u in w.gives (waiting_last xs x k.0 (over_operands x.now r (subst EachReadable o (k.1, tt))));
      has = λ h. let k = waiting_front xs x (w.has h) in let e = subst EachReadable (sym o) (at_operands x.now k.1) in waiting_last xs a k.0 e.0;
    }

    pub two_operands : (a b : Bor Expr) → expression_of a.now ∷ (expression_of b.now ∷ []) ≡ operands (expression_of x.now) → Waits whole ((xs ++ b ∷ []) ++ a ∷ [])
    two_operands a b o = record {
      gives = λ u. let k = waiting_front (xs ++ b ∷ []) a u in let j = waiting_front xs b k.0 in w.gives (waiting_last xs x j.0 (over_operands x.now r (subst EachReadable o (k.1, (j.1, tt)))));
      has = λ h. let k = waiting_front xs x (w.has h) in let e = subst EachReadable (sym o) (at_operands x.now k.1) in waiting_last (xs ++ b ∷ []) a (waiting_last xs b k.0 e.1.0) e.0;
    }

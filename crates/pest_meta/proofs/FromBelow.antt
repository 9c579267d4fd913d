-- A pass from the leaves up goes through every expression without wrappers.
use Rattle.base_language.specs.Language.Expression.{Expression, Str, Insens, Range, Ident, PeekSlice, PosPred, NegPred, Seq, Choice, Opt, Rep, RepOnce, RepExact, RepMin, RepMax, RepMinMax, Skip, Push, PushLiteral, NodeTag, RestoreOnErr}
use Rattle.front_optimizer.specs.Traversals as trav
use Rattle.front_optimizer.specs.Traversals.{BottomUp, left, Above}
use Rattle.pest_meta.proofs.Bare.{Bare}

module _ (R : Expression → Expression → Type 0) (at : (a : Expression) → (b : Expression) × R a b) where
  pub record GoesUp (a : Expression) : Type 0 where
    pub end : Expression
    pub up : BottomUp R a end

  over : {a m : Expression} → Above R a m → GoesUp a
  over {m = m} d = record { end = (at m).0; up = left d (at m).1 }

  pub goes_up : (a : Expression) → Bare a → GoesUp a
  goes_up (PosPred e) u = over (trav.Above.pos_pred (goes_up e u).up)
  goes_up (NegPred e) u = over (trav.Above.neg_pred (goes_up e u).up)
  goes_up (Seq a b) u = over (trav.Above.seq (goes_up a u.0).up (goes_up b u.1).up)
  goes_up (Choice a b) u = over (trav.Above.choice (goes_up a u.0).up (goes_up b u.1).up)
  goes_up (Opt e) u = over (trav.Above.opt (goes_up e u).up)
  goes_up (Rep e) u = over (trav.Above.rep (goes_up e u).up)
  goes_up (RepOnce e) u = over (trav.Above.rep_once (goes_up e u).up)
  goes_up (RepExact e i) u = over (trav.Above.rep_exact (goes_up e u).up)
  goes_up (RepMin e i) u = over (trav.Above.rep_min (goes_up e u).up)
  goes_up (RepMax e i) u = over (trav.Above.rep_max (goes_up e u).up)
  goes_up (RepMinMax e i j) u = over (trav.Above.rep_min_max (goes_up e u).up)
  goes_up (Push e) u = over (trav.Above.push (goes_up e u).up)
  goes_up (NodeTag e t) u = over (trav.Above.tag (goes_up e u).up)
  goes_up (RestoreOnErr e) u = absurd u
  goes_up (Str t) u = over (trav.Above.leaf {a = Str t} tt)
  goes_up (Insens t) u = over (trav.Above.leaf {a = Insens t} tt)
  goes_up (Range s t) u = over (trav.Above.leaf {a = Range s t} tt)
  goes_up (Ident t) u = over (trav.Above.leaf {a = Ident t} tt)
  goes_up (PeekSlice i j) u = over (trav.Above.leaf {a = PeekSlice i j} tt)
  goes_up (Skip ts) u = over (trav.Above.leaf {a = Skip ts} tt)
  goes_up (PushLiteral t) u = over (trav.Above.leaf {a = PushLiteral t} tt)

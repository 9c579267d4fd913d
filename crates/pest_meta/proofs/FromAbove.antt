-- A pass from the root down goes through every expression without wrappers, if it makes none larger.
use Rattle.std.proofs.Common.{ℕ, zero, suc, ◌<◌, ◌≤◌, arith}
use Rattle.base_language.specs.Language.Expression.{Expression, Str, Insens, Range, Ident, PeekSlice, PosPred, NegPred, Seq, Choice, Opt, Rep, RepOnce, RepExact, RepMin, RepMax, RepMinMax, Skip, Push, PushLiteral, NodeTag, RestoreOnErr}
use Rattle.base_ast.specs.Operands.{count_of_nodes}
use Rattle.front_optimizer.specs.Traversals as trav
use Rattle.front_optimizer.specs.Traversals.{TopDown, met, Below}
use Rattle.pest_meta.proofs.Bare.{Bare}

module _ (R : Expression → Expression → Type 0) where
  -- what the pass makes of a node, no larger and without wrappers
  pub record Makes (a : Expression) : Type 0 where
    pub node : Expression
    pub made : R a node
    pub bare : Bare node
    pub small : count_of_nodes node ≤ count_of_nodes a

  pub record GoesDown (a : Expression) : Type 0 where
    pub end : Expression
    pub down : TopDown R a end

  record GoesBelow (a : Expression) : Type 0 where
    end : Expression
    down : Below R a end

  abbrev Goes : ℕ → Type 0
  Goes n = (e : Expression) → count_of_nodes e < n → Bare e → GoesDown e

  below : (n : ℕ) → Goes n → (m : Expression) → count_of_nodes m < suc n → Bare m → GoesBelow m
  below n f (PosPred e) h u = let d = f e (omega arith) u in record { end = PosPred d.end; down = trav.Below.pos_pred d.down }
  below n f (NegPred e) h u = let d = f e (omega arith) u in record { end = NegPred d.end; down = trav.Below.neg_pred d.down }
  below n f (Seq a b) h u =
      let d = f a (omega arith) u.0 in let e = f b (omega arith) u.1 in record { end = Seq d.end e.end; down = trav.Below.seq d.down e.down }
  below n f (Choice a b) h u =
      let d = f a (omega arith) u.0 in let e = f b (omega arith) u.1 in record { end = Choice d.end e.end; down = trav.Below.choice d.down e.down }
  below n f (Opt e) h u = let d = f e (omega arith) u in record { end = Opt d.end; down = trav.Below.opt d.down }
  below n f (Rep e) h u = let d = f e (omega arith) u in record { end = Rep d.end; down = trav.Below.rep d.down }
  below n f (RepOnce e) h u = let d = f e (omega arith) u in record { end = RepOnce d.end; down = trav.Below.rep_once d.down }
  below n f (RepExact e i) h u = let d = f e (omega arith) u in record { end = RepExact d.end i; down = trav.Below.rep_exact d.down }
  below n f (RepMin e i) h u = let d = f e (omega arith) u in record { end = RepMin d.end i; down = trav.Below.rep_min d.down }
  below n f (RepMax e i) h u = let d = f e (omega arith) u in record { end = RepMax d.end i; down = trav.Below.rep_max d.down }
  below n f (RepMinMax e i j) h u = let d = f e (omega arith) u in record { end = RepMinMax d.end i j; down = trav.Below.rep_min_max d.down }
  below n f (Push e) h u = let d = f e (omega arith) u in record { end = Push d.end; down = trav.Below.push d.down }
  below n f (NodeTag e t) h u = let d = f e (omega arith) u in record { end = NodeTag d.end t; down = trav.Below.tag d.down }
  below n f (RestoreOnErr e) h u = absurd u
  below n f (Str t) h u = record { end = Str t; down = trav.Below.leaf tt }
  below n f (Insens t) h u = record { end = Insens t; down = trav.Below.leaf tt }
  below n f (Range s t) h u = record { end = Range s t; down = trav.Below.leaf tt }
  below n f (Ident t) h u = record { end = Ident t; down = trav.Below.leaf tt }
  below n f (PeekSlice i j) h u = record { end = PeekSlice i j; down = trav.Below.leaf tt }
  below n f (Skip ts) h u = record { end = Skip ts; down = trav.Below.leaf tt }
  below n f (PushLiteral t) h u = record { end = PushLiteral t; down = trav.Below.leaf tt }

  module _ (at : (a : Expression) → Bare a → Makes a) where
    goes : (n : ℕ) → Goes n
    goes zero a h u = absurd (omega arith)
    goes (suc n) a h u =
        let m = at a u in
        let small = m.small in
        let d = below n (goes n) m.node (omega arith) m.bare in
        record { end = d.end; down = met m.made d.down }

    pub goes_down : (a : Expression) → Bare a → GoesDown a
    goes_down a u = goes (suc (count_of_nodes a)) a (omega arith) u

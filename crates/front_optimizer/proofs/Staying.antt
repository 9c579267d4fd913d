-- Where nothing is done at any node, an expression becomes itself.
use Rattle.std.proofs.Common.{◌≡◌, ℕ, ◌+◌, ◌<◌, List, [], ◌∷◌, ◌++◌, sym, subst, arith}
use Rattle.std.specs.Prelude.{⊤}
use denote.Ref.{Bor}
use Rattle.base_language.specs.Language.Expression as e
use Rattle.base_language.specs.Language.Expression.{Expression}
use Rattle.base_ast.specs.Ast.{expression_of}
use Rattle.base_ast.specs.Operands.{operands, count_of_nodes}
use Rattle.base_ast.specs.declared.ast.Expr.{Expr, Str, Insens, Range, Ident, PeekSlice, PosPred', NegPred', Seq', Choice', Opt', Rep', RepOnce', RepExact', RepMin', RepMax', RepMinMax', Skip, Push', PushLiteral, NodeTag'}
use Rattle.front_optimizer.specs.Traversals as trav
use Rattle.front_optimizer.specs.Traversals.{TopDown, BottomUp, AllStay}

-- how many nodes there are in expressions that wait
abbrev pub nodes_of : List (Bor Expr) → ℕ
nodes_of [] = 0
nodes_of (x ∷ xs) = count_of_nodes (expression_of x.now) + nodes_of xs

pub nodes_last : (xs : List (Bor Expr)) (x : Bor Expr) → nodes_of (xs ++ x ∷ []) ≡ nodes_of xs + count_of_nodes (expression_of x.now)
nodes_last [] x = omega arith
nodes_last (y ∷ xs) x = let h = nodes_last xs x in omega arith

abbrev pub counted : List Expression → ℕ
counted [] = 0
counted (a ∷ xs) = count_of_nodes a + counted xs

pub fewer : (a : Expression) → counted (operands a) < count_of_nodes a
fewer (e.PosPred a) = omega arith
fewer (e.NegPred a) = omega arith
fewer (e.Opt a) = omega arith
fewer (e.Rep a) = omega arith
fewer (e.RepOnce a) = omega arith
fewer (e.RepExact a i) = omega arith
fewer (e.RepMin a i) = omega arith
fewer (e.RepMax a i) = omega arith
fewer (e.RepMinMax a i j) = omega arith
fewer (e.Push a) = omega arith
fewer (e.NodeTag a t) = omega arith
fewer (e.Seq a b) = omega arith
fewer (e.Choice a b) = omega arith
fewer (e.RestoreOnErr a) = omega arith
fewer _ = omega arith

-- so there are fewer once the last gave way to its operands
pub less_by_none : (xs : List (Bor Expr)) (x : Bor Expr) → nodes_of xs < nodes_of (xs ++ x ∷ [])
less_by_none xs x = let h = nodes_last xs x in let k = fewer (expression_of x.now) in omega arith

pub less_by_one : (xs : List (Bor Expr)) (x a : Bor Expr) → expression_of a.now ∷ [] ≡ operands (expression_of x.now) → nodes_of (xs ++ a ∷ []) < nodes_of (xs ++ x ∷ [])
less_by_one xs x a o =
    let h = nodes_last xs x in
    let i = nodes_last xs a in
    let k : count_of_nodes (expression_of a.now) + 0 < count_of_nodes (expression_of x.now) = subst (λ es. counted es < count_of_nodes (expression_of x.now)) (sym o) (fewer (expression_of x.now)) in omega arith

pub less_by_two : (xs : List (Bor Expr)) (x a b : Bor Expr) → expression_of a.now ∷ (expression_of b.now ∷ []) ≡ operands (expression_of x.now) → nodes_of ((xs ++ b ∷ []) ++ a ∷ []) < nodes_of (xs ++ x ∷ [])
less_by_two xs x a b o =
    let h = nodes_last xs x in
    let i = nodes_last (xs ++ b ∷ []) a in
    let j = nodes_last xs b in
    let k : count_of_nodes (expression_of a.now) + (count_of_nodes (expression_of b.now) + 0) < count_of_nodes (expression_of x.now) = subst (λ es. counted es < count_of_nodes (expression_of x.now)) (sym o) (fewer (expression_of x.now)) in omega arith

module _ (R : Expression → Expression → Type 0) where
  pub stays_down : (x : Expr) → AllStay R (expression_of x) → TopDown R (expression_of x) (expression_of x)
  stays_down (Str s) r = trav.met r (trav.Below.leaf tt)
  stays_down (Insens s) r = trav.met r (trav.Below.leaf tt)
  stays_down (Range s t) r = trav.met r (trav.Below.leaf tt)
  stays_down (Ident s) r = trav.met r (trav.Below.leaf tt)
  stays_down (PeekSlice i j) r = trav.met r (trav.Below.leaf tt)
  stays_down (Skip ss) r = trav.met r (trav.Below.leaf tt)
  stays_down (PushLiteral u) r = trav.met r (trav.Below.leaf tt)
  stays_down (PosPred' p y) (r, h) = trav.met r (trav.Below.pos_pred (stays_down y h))
  stays_down (NegPred' p y) (r, h) = trav.met r (trav.Below.neg_pred (stays_down y h))
  stays_down (Opt' p y) (r, h) = trav.met r (trav.Below.opt (stays_down y h))
  stays_down (Rep' p y) (r, h) = trav.met r (trav.Below.rep (stays_down y h))
  stays_down (RepOnce' p y) (r, h) = trav.met r (trav.Below.rep_once (stays_down y h))
  stays_down (RepExact' p y i) (r, h) = trav.met r (trav.Below.rep_exact (stays_down y h))
  stays_down (RepMin' p y i) (r, h) = trav.met r (trav.Below.rep_min (stays_down y h))
  stays_down (RepMax' p y i) (r, h) = trav.met r (trav.Below.rep_max (stays_down y h))
  stays_down (RepMinMax' p y i j) (r, h) = trav.met r (trav.Below.rep_min_max (stays_down y h))
  stays_down (Push' p y) (r, h) = trav.met r (trav.Below.push (stays_down y h))
  stays_down (NodeTag' p y u) (r, h) = trav.met r (trav.Below.tag (stays_down y h))
  stays_down (Seq' p y q z) (r, h, k) = trav.met r (trav.Below.seq (stays_down y h) (stays_down z k))
  stays_down (Choice' p y q z) (r, h, k) = trav.met r (trav.Below.choice (stays_down y h) (stays_down z k))

  pub stays_up : (x : Expr) → AllStay R (expression_of x) → BottomUp R (expression_of x) (expression_of x)
  stays_up (Str s) r = trav.left (trav.Above.leaf tt) r
  stays_up (Insens s) r = trav.left (trav.Above.leaf tt) r
  stays_up (Range s t) r = trav.left (trav.Above.leaf tt) r
  stays_up (Ident s) r = trav.left (trav.Above.leaf tt) r
  stays_up (PeekSlice i j) r = trav.left (trav.Above.leaf tt) r
  stays_up (Skip ss) r = trav.left (trav.Above.leaf tt) r
  stays_up (PushLiteral u) r = trav.left (trav.Above.leaf tt) r
  stays_up (PosPred' p y) (r, h) = trav.left (trav.Above.pos_pred (stays_up y h)) r
  stays_up (NegPred' p y) (r, h) = trav.left (trav.Above.neg_pred (stays_up y h)) r
  stays_up (Opt' p y) (r, h) = trav.left (trav.Above.opt (stays_up y h)) r
  stays_up (Rep' p y) (r, h) = trav.left (trav.Above.rep (stays_up y h)) r
  stays_up (RepOnce' p y) (r, h) = trav.left (trav.Above.rep_once (stays_up y h)) r
  stays_up (RepExact' p y i) (r, h) = trav.left (trav.Above.rep_exact (stays_up y h)) r
  stays_up (RepMin' p y i) (r, h) = trav.left (trav.Above.rep_min (stays_up y h)) r
  stays_up (RepMax' p y i) (r, h) = trav.left (trav.Above.rep_max (stays_up y h)) r
  stays_up (RepMinMax' p y i j) (r, h) = trav.left (trav.Above.rep_min_max (stays_up y h)) r
  stays_up (Push' p y) (r, h) = trav.left (trav.Above.push (stays_up y h)) r
  stays_up (NodeTag' p y u) (r, h) = trav.left (trav.Above.tag (stays_up y h)) r
  stays_up (Seq' p y q z) (r, h, k) = trav.left (trav.Above.seq (stays_up y h) (stays_up z k)) r
  stays_up (Choice' p y q z) (r, h, k) = trav.left (trav.Above.choice (stays_up y h) (stays_up z k)) r

  abbrev EachStays : List Expression → Type 0
  EachStays [] = ⊤
  EachStays (a ∷ xs) = AllStay R a × EachStays xs

  over_operands : (x : Expr) → R (expression_of x) (expression_of x) → EachStays (operands (expression_of x)) → AllStay R (expression_of x)
  over_operands (Str s) r none = r
  over_operands (Insens s) r none = r
  over_operands (Range s t) r none = r
  over_operands (Ident s) r none = r
  over_operands (PeekSlice i j) r none = r
  over_operands (Skip ss) r none = r
  over_operands (PushLiteral u) r none = r
  over_operands (PosPred' p y) r (h, t) = (r, h)
  over_operands (NegPred' p y) r (h, t) = (r, h)
  over_operands (Opt' p y) r (h, t) = (r, h)
  over_operands (Rep' p y) r (h, t) = (r, h)
  over_operands (RepOnce' p y) r (h, t) = (r, h)
  over_operands (RepExact' p y i) r (h, t) = (r, h)
  over_operands (RepMin' p y i) r (h, t) = (r, h)
  over_operands (RepMax' p y i) r (h, t) = (r, h)
  over_operands (RepMinMax' p y i j) r (h, t) = (r, h)
  over_operands (Push' p y) r (h, t) = (r, h)
  over_operands (NodeTag' p y u) r (h, t) = (r, h)
  over_operands (Seq' p y q z) r (h, (k, none)) = (r, h, k)
  over_operands (Choice' p y q z) r (h, (k, none)) = (r, h, k)

  abbrev pub WaitingStay : List (Bor Expr) → Type 0
  WaitingStay [] = ⊤
  WaitingStay (x ∷ xs) = AllStay R (expression_of x.now) × WaitingStay xs

  waiting_last : (xs : List (Bor Expr)) (x : Bor Expr) → WaitingStay xs → AllStay R (expression_of x.now) → WaitingStay (xs ++ x ∷ [])
  waiting_last [] x w h = (h, tt)
  waiting_last (y ∷ xs) x w h = (w.0, waiting_last xs x w.1 h)

  waiting_front : (xs : List (Bor Expr)) (x : Bor Expr) → WaitingStay (xs ++ x ∷ []) → WaitingStay xs × AllStay R (expression_of x.now)
  waiting_front [] x w = (tt, w.0)
  waiting_front (y ∷ xs) x w = let r = waiting_front xs x w.1 in ((w.0, r.0), r.1)

  -- in the place of an expression its operands wait
  module _ (whole : Type 0) (xs : List (Bor Expr)) (x : Bor Expr) (r : R (expression_of x.now) (expression_of x.now)) (all : WaitingStay (xs ++ x ∷ []) → whole) where
    pub no_operands : [] ≡ operands (expression_of x.now) → WaitingStay xs → whole
    no_operands o w = all (waiting_last xs x w (over_operands x.now r (subst EachStays o tt)))

    pub one_operand : (a : Bor Expr) → expression_of a.now ∷ [] ≡ operands (expression_of x.now) → WaitingStay (xs ++ a ∷ []) → whole
    one_operand a o w = let k = waiting_front xs a w in all (waiting_last xs x k.0 (over_operands x.now r (subst EachStays o (k.1, tt))))

    pub two_operands : (a b : Bor Expr) → expression_of a.now ∷ (expression_of b.now ∷ []) ≡ operands (expression_of x.now) → WaitingStay ((xs ++ b ∷ []) ++ a ∷ []) → whole
    two_operands a b o w = let k = waiting_front (xs ++ b ∷ []) a w in let j = waiting_front xs b k.0 in all (waiting_last xs x j.0 (over_operands x.now r (subst EachStays o (k.1, (j.1, tt)))))

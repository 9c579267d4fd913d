-- Putting literals together by a loop is putting them together at each node from the leaves up.
use Rattle.std.proofs.Common.{◌≡◌, ◌∙◌, refl, sym, ap, List, [], ◌∷◌, ◌++◌, Global}
use Rattle.std.proofs.lemmas.List.{append_assoc, append-nil}
use Rattle.std.specs.declared.string.String.{String}
use Rattle.base_ast.specs.Ast.{expression_of, text_of}
use Rattle.base_ast.specs.declared.ast.Expr.{Expr, Str, Insens, Range, Ident, PeekSlice, PosPred', NegPred', Seq', Choice', Opt', Rep', RepOnce', RepExact', RepMin', RepMax', RepMinMax', Skip, Push', PushLiteral, NodeTag'}
use Rattle.front_optimizer.specs.Joined.{concatenated, in_order}
use Rattle.front_optimizer.specs.Traversals as trav
use Rattle.front_optimizer.specs.Traversals.{BottomUp}
use Rattle.front_optimizer.proofs.Joining.{Joined}

pub in_order_both : (xs ys : List (String Global)) → in_order (xs ++ ys) ≡ in_order xs ++ in_order ys
in_order_both [] ys = refl
in_order_both (x ∷ xs) ys = ap (λ t. text_of x ++ t) (in_order_both xs ys) ∙ sym (append_assoc (text_of x) (in_order xs) (in_order ys))

pub in_order_last : (xs : List (String Global)) (y : String Global) → in_order (xs ++ y ∷ []) ≡ in_order xs ++ text_of y
in_order_last xs y = in_order_both xs (y ∷ []) ∙ ap (λ t. in_order xs ++ t) (append-nil (text_of y))

pub from_the_leaves : (x : Expr) → BottomUp Joined (expression_of x) (concatenated (expression_of x))
from_the_leaves (Str s) = trav.left (trav.Above.leaf tt) refl
from_the_leaves (Insens s) = trav.left (trav.Above.leaf tt) refl
from_the_leaves (Range s t) = trav.left (trav.Above.leaf tt) refl
from_the_leaves (Ident s) = trav.left (trav.Above.leaf tt) refl
from_the_leaves (PeekSlice i j) = trav.left (trav.Above.leaf tt) refl
from_the_leaves (Skip ss) = trav.left (trav.Above.leaf tt) refl
from_the_leaves (PushLiteral u) = trav.left (trav.Above.leaf tt) refl
from_the_leaves (PosPred' p y) = trav.left (trav.Above.pos_pred (from_the_leaves y)) refl
from_the_leaves (NegPred' p y) = trav.left (trav.Above.neg_pred (from_the_leaves y)) refl
from_the_leaves (Opt' p y) = trav.left (trav.Above.opt (from_the_leaves y)) refl
from_the_leaves (Rep' p y) = trav.left (trav.Above.rep (from_the_leaves y)) refl
from_the_leaves (RepOnce' p y) = trav.left (trav.Above.rep_once (from_the_leaves y)) refl
from_the_leaves (RepExact' p y i) = trav.left (trav.Above.rep_exact (from_the_leaves y)) refl
from_the_leaves (RepMin' p y i) = trav.left (trav.Above.rep_min (from_the_leaves y)) refl
from_the_leaves (RepMax' p y i) = trav.left (trav.Above.rep_max (from_the_leaves y)) refl
from_the_leaves (RepMinMax' p y i j) = trav.left (trav.Above.rep_min_max (from_the_leaves y)) refl
from_the_leaves (Push' p y) = trav.left (trav.Above.push (from_the_leaves y)) refl
from_the_leaves (NodeTag' p y u) = trav.left (trav.Above.tag (from_the_leaves y)) refl
from_the_leaves (Seq' p y q z) = trav.left (trav.Above.seq (from_the_leaves y) (from_the_leaves z)) refl
from_the_leaves (Choice' p y q z) = trav.left (trav.Above.choice (from_the_leaves y) (from_the_leaves z)) refl

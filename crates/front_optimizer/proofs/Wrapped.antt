-- Expressions and rules without wrappers.
use Rattle.std.proofs.Common.{◌≡◌, refl, ◌∙◌, ap, ap₂}
use Rattle.std.specs.List.{All}
use Rattle.std.proofs.lemmas.List.Elements.{All-nil, All-cons, All-head, All-tail, All-contains}
use Rattle.base_language.specs.Rewritings.Erased.{erased}
use Rattle.base_language.specs.Language.Expression as e
use Rattle.base_language.specs.Language.Expression.{Expression, RestoreOnErr, RuleType, Rule, Grammar, Part, whole, of_pos_pred, of_neg_pred, of_seq_left, of_seq_right, of_choice_left, of_choice_right, of_opt, of_rep, of_rep_once, of_rep_exact, of_rep_min, of_rep_max, of_rep_min_max, of_push, of_tag}
use Rattle.base_language.specs.Rewritings.Listing.{listed}
use Rattle.base_language.specs.Rewritings.Rewriting.{EachBody, no_rules, also_rule}
use Rattle.base_ast.specs.Ast.{expression_of}
use Rattle.base_ast.specs.declared.ast.Expr.{Expr, Str, Insens, Range, Ident, PeekSlice, PosPred', NegPred', Seq', Choice', Opt', Rep', RepOnce', RepExact', RepMin', RepMax', RepMinMax', Skip, Push', PushLiteral, NodeTag'}
use Rattle.front_restorer.specs.Changing.{HasNoWrappers}
use Rattle.front_restorer.specs.Restoring.{AreSameErased, HaveNoWrappers}
use Rattle.front_optimizer.specs.Passes.{IsListing, IsOptimizedBody}

-- an expression of code has no wrapper
pub bare : (x : Expr) → HasNoWrappers (expression_of x)
bare (Str s) y k = elim k [ ]
bare (Insens s) y k = elim k [ ]
bare (Range s t) y k = elim k [ ]
bare (Ident s) y k = elim k [ ]
bare (PeekSlice i j) y k = elim k [ ]
bare (Skip ss) y k = elim k [ ]
bare (PushLiteral u) y k = elim k [ ]
bare (PosPred' p x) y (of_pos_pred k) = bare x y k
bare (NegPred' p x) y (of_neg_pred k) = bare x y k
bare (Seq' p x q z) y (of_seq_left k) = bare x y k
bare (Seq' p x q z) y (of_seq_right k) = bare z y k
bare (Choice' p x q z) y (of_choice_left k) = bare x y k
bare (Choice' p x q z) y (of_choice_right k) = bare z y k
bare (Opt' p x) y (of_opt k) = bare x y k
bare (Rep' p x) y (of_rep k) = bare x y k
bare (RepOnce' p x) y (of_rep_once k) = bare x y k
bare (RepExact' p x n) y (of_rep_exact k) = bare x y k
bare (RepMin' p x m) y (of_rep_min k) = bare x y k
bare (RepMax' p x n) y (of_rep_max k) = bare x y k
bare (RepMinMax' p x m n) y (of_rep_min_max k) = bare x y k
bare (Push' p x) y (of_push k) = bare x y k
bare (NodeTag' p x u) y (of_tag k) = bare x y k

-- what has no wrappers is the same without them
erased_same : (x : Expression) → HasNoWrappers x → erased x ≡ x
erased_same (e.PosPred x) h = ap e.PosPred (erased_same x (λ y k. h y (of_pos_pred k)))
erased_same (e.NegPred x) h = ap e.NegPred (erased_same x (λ y k. h y (of_neg_pred k)))
erased_same (e.Seq x z) h = ap₂ e.Seq (erased_same x (λ y k. h y (of_seq_left k))) (erased_same z (λ y k. h y (of_seq_right k)))
erased_same (e.Choice x z) h = ap₂ e.Choice (erased_same x (λ y k. h y (of_choice_left k))) (erased_same z (λ y k. h y (of_choice_right k)))
erased_same (e.Opt x) h = ap e.Opt (erased_same x (λ y k. h y (of_opt k)))
erased_same (e.Rep x) h = ap e.Rep (erased_same x (λ y k. h y (of_rep k)))
erased_same (e.RepOnce x) h = ap e.RepOnce (erased_same x (λ y k. h y (of_rep_once k)))
erased_same (e.RepExact x i) h = ap (λ z. e.RepExact z i) (erased_same x (λ y k. h y (of_rep_exact k)))
erased_same (e.RepMin x i) h = ap (λ z. e.RepMin z i) (erased_same x (λ y k. h y (of_rep_min k)))
erased_same (e.RepMax x i) h = ap (λ z. e.RepMax z i) (erased_same x (λ y k. h y (of_rep_max k)))
erased_same (e.RepMinMax x i j) h = ap (λ z. e.RepMinMax z i j) (erased_same x (λ y k. h y (of_rep_min_max k)))
erased_same (e.Push x) h = ap e.Push (erased_same x (λ y k. h y (of_push k)))
erased_same (e.NodeTag x t) h = ap (λ z. e.NodeTag z t) (erased_same x (λ y k. h y (of_tag k)))
erased_same (RestoreOnErr x) h = absurd (h x whole)
erased_same (e.Str t) h = refl
erased_same (e.Insens t) h = refl
erased_same (e.Range t u) h = refl
erased_same (e.Ident n) h = refl
erased_same (e.PeekSlice i j) h = refl
erased_same (e.Skip ts) h = refl
erased_same (e.PushLiteral t) h = refl

abbrev IsBare : Rule → Type 0
IsBare r = HasNoWrappers r.body

pub all_bare : (rules : Grammar) {g h : Grammar} → EachBody (IsOptimizedBody rules) g h → All IsBare h
all_bare rules no_rules = All-nil IsBare
all_bare rules (also_rule {r = r} {b = b} {qs = qs} x t) = All-cons IsBare (record r { body = b }) qs x.bare (all_bare rules t)

pub have_no_wrappers : (rules : Grammar) {g h : Grammar} → EachBody (IsOptimizedBody rules) g h → HaveNoWrappers h
have_no_wrappers rules {h = h} t x (r, c, k) = All-contains IsBare h r (all_bare rules t) c x k

abbrev Listing : RuleType → Expression → Expression → Type 0
Listing y a b = b ≡ listed a

abbrev Erasing : RuleType → Expression → Expression → Type 0
Erasing y a b = IsListing a b

-- without the wrappers that were put in, it is the listing still
pub erased_listing : {g h i : Grammar} → EachBody Listing g h → All IsBare h → AreSameErased h i → EachBody Erasing g i
erased_listing no_rules b no_rules = no_rules
erased_listing (also_rule {r = r} {b = m} {qs = qs} x t) b (also_rule {b = n} y u) =
    also_rule {r = r} (y ∙ (erased_same m (All-head IsBare (record r { body = m }) qs b) ∙ x)) (erased_listing t (All-tail IsBare (record r { body = m }) qs b) u)

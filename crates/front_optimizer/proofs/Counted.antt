-- Readable counts, at every part and from part to part.
use Rattle.std.proofs.Common.{ℕ, ◌<◌, List, [], ◌∷◌, length, get_or}
use Rattle.std.specs.List.{All}
use Rattle.std.proofs.lemmas.List.{get_or-map, length-map}
use Rattle.std.proofs.lemmas.List.Elements.{All-nil, All-cons, All-map, All-contains}
use Rattle.base_language.specs.Language.Expression.{Expression, Str, Insens, Range, Ident, PeekSlice, PosPred, NegPred, Seq, Choice, Opt, Rep, RepOnce, RepExact, RepMin, RepMax, RepMinMax, Skip, Push, RestoreOnErr, Rule, Grammar, whole, of_pos_pred, of_neg_pred, of_seq_left, of_seq_right, of_choice_left, of_choice_right, of_opt, of_rep, of_rep_once, of_rep_exact, of_rep_min, of_rep_max, of_rep_min_max, of_push, of_restore, PushLiteral, NodeTag, of_tag}
use Rattle.base_language.specs.Language.WellFormed.{CountIsReadable, HasReadableCounts}
use Rattle.base_language.proofs.SomeRule.{each_rule}
use Rattle.base_ast.specs.Ast.{expression_of, rule_of_code, rules_of}
use Rattle.base_ast.specs.declared.ast.Rule as code_rule
use Rattle.front_optimizer.specs.Counts.{CountsAreReadable, PartsAreReadable}
use Rattle.front_optimizer.specs.Unrolled.{IsUnrolled, AreUnrolled}

pub at_root : (e : Expression) → PartsAreReadable e → CountIsReadable e
at_root (RepExact e i) u = u.0
at_root (RepMax e i) u = u.0
at_root (RepMinMax e i j) u = u.0
at_root (Str s) u = tt
at_root (Insens s) u = tt
at_root (Range s t) u = tt
at_root (Ident s) u = tt
at_root (PeekSlice i j) u = tt
at_root (Skip ss) u = tt
at_root (PushLiteral s) u = tt
at_root (PosPred e) u = tt
at_root (NegPred e) u = tt
at_root (Seq a b) u = tt
at_root (Choice a b) u = tt
at_root (Opt e) u = tt
at_root (Rep e) u = tt
at_root (RepOnce e) u = tt
at_root (RepMin e i) u = tt
at_root (Push e) u = tt
at_root (NodeTag e t) u = tt
at_root (RestoreOnErr e) u = tt

pub everywhere : (e : Expression) → PartsAreReadable e → CountsAreReadable e
everywhere e u p whole = at_root e u
everywhere (PosPred e) u p (of_pos_pred k) = everywhere e u p k
everywhere (NegPred e) u p (of_neg_pred k) = everywhere e u p k
everywhere (Seq a b) u p (of_seq_left k) = everywhere a u.0 p k
everywhere (Seq a b) u p (of_seq_right k) = everywhere b u.1 p k
everywhere (Choice a b) u p (of_choice_left k) = everywhere a u.0 p k
everywhere (Choice a b) u p (of_choice_right k) = everywhere b u.1 p k
everywhere (Opt e) u p (of_opt k) = everywhere e u p k
everywhere (Rep e) u p (of_rep k) = everywhere e u p k
everywhere (RepOnce e) u p (of_rep_once k) = everywhere e u p k
everywhere (RepExact e i) u p (of_rep_exact k) = everywhere e u.1 p k
everywhere (RepMin e i) u p (of_rep_min k) = everywhere e u p k
everywhere (RepMax e i) u p (of_rep_max k) = everywhere e u.1 p k
everywhere (RepMinMax e i j) u p (of_rep_min_max k) = everywhere e u.1 p k
everywhere (Push e) u p (of_push k) = everywhere e u p k
everywhere (NodeTag e t) u p (of_tag k) = everywhere e u p k
everywhere (RestoreOnErr e) u p (of_restore k) = everywhere e u p k

pub by_parts : (e : Expression) → CountsAreReadable e → PartsAreReadable e
by_parts (RepExact e i) f = (f _ whole, by_parts e (λ p k. f p (of_rep_exact k)))
by_parts (RepMax e i) f = (f _ whole, by_parts e (λ p k. f p (of_rep_max k)))
by_parts (RepMinMax e i j) f = (f _ whole, by_parts e (λ p k. f p (of_rep_min_max k)))
by_parts (PosPred e) f = by_parts e (λ p k. f p (of_pos_pred k))
by_parts (NegPred e) f = by_parts e (λ p k. f p (of_neg_pred k))
by_parts (Seq a b) f = (by_parts a (λ p k. f p (of_seq_left k)), by_parts b (λ p k. f p (of_seq_right k)))
by_parts (Choice a b) f = (by_parts a (λ p k. f p (of_choice_left k)), by_parts b (λ p k. f p (of_choice_right k)))
by_parts (Opt e) f = by_parts e (λ p k. f p (of_opt k))
by_parts (Rep e) f = by_parts e (λ p k. f p (of_rep k))
by_parts (RepOnce e) f = by_parts e (λ p k. f p (of_rep_once k))
by_parts (RepMin e i) f = by_parts e (λ p k. f p (of_rep_min k))
by_parts (Push e) f = by_parts e (λ p k. f p (of_push k))
by_parts (NodeTag e t) f = by_parts e (λ p k. f p (of_tag k))
by_parts (RestoreOnErr e) f = by_parts e (λ p k. f p (of_restore k))
by_parts (Str s) f = tt
by_parts (Insens s) f = tt
by_parts (Range s t) f = tt
by_parts (Ident s) f = tt
by_parts (PeekSlice i j) f = tt
by_parts (Skip ss) f = tt
by_parts (PushLiteral s) f = tt

-- in each rule of code
abbrev pub RuleIsReadable : code_rule.Rule → Type 0
RuleIsReadable r = PartsAreReadable (expression_of r.expr)

-- in a rule
abbrev BodyIsReadable : Rule → Type 0
BodyIsReadable r = CountsAreReadable r.body

-- in each rule of a list, and in what stands in some rule of it
readable_in_all : (g : Grammar) → All BodyIsReadable g → HasReadableCounts g
readable_in_all g a p i = All-contains BodyIsReadable g i.0 a i.1 p i.2

readable_in_each : (g : Grammar) → HasReadableCounts g → All BodyIsReadable g
readable_in_each g u = each_rule BodyIsReadable g (λ r k p q. u p (r, k, q))

pub all_readable : (rs : List code_rule.Rule) → All RuleIsReadable rs → HasReadableCounts (rules_of rs)
all_readable rs u =
    readable_in_all (rules_of rs) (All-map BodyIsReadable rule_of_code rs (λ k d h. everywhere (expression_of (get_or rs k d).expr) (u k d h)))

pub each_readable : (rs : List code_rule.Rule) (i : ℕ) (d : code_rule.Rule) → i < length rs → HasReadableCounts (rules_of rs) → RuleIsReadable (get_or rs i d)
each_readable rs i d h u =
    let at = get_or-map rule_of_code rs i d (rule_of_code d) h in
    let f = readable_in_each (rules_of rs) u i (rule_of_code d) (rw length-map h) in
    by_parts (expression_of (get_or rs i d).expr) (rw at at f)

-- where no counted repetition is left, nothing is counted
uncounted : (e : Expression) → IsUnrolled e → PartsAreReadable e
uncounted (PosPred e) u = uncounted e u
uncounted (NegPred e) u = uncounted e u
uncounted (Seq a b) u = (uncounted a u.0, uncounted b u.1)
uncounted (Choice a b) u = (uncounted a u.0, uncounted b u.1)
uncounted (Opt e) u = uncounted e u
uncounted (Rep e) u = uncounted e u
uncounted (RepOnce e) u = uncounted e u
uncounted (Push e) u = uncounted e u
uncounted (NodeTag e t) u = uncounted e u
uncounted (RestoreOnErr e) u = uncounted e u
uncounted (Str s) u = tt
uncounted (Insens s) u = tt
uncounted (Range s t) u = tt
uncounted (Ident s) u = tt
uncounted (PeekSlice i j) u = tt
uncounted (Skip ss) u = tt
uncounted (PushLiteral s) u = tt
uncounted _ u = absurd u

each_uncounted : (g : Grammar) → AreUnrolled g → All BodyIsReadable g
each_uncounted [] u = All-nil BodyIsReadable
each_uncounted (r ∷ g) u = All-cons BodyIsReadable r g (everywhere r.body (uncounted r.body u.0)) (each_uncounted g u.1)

pub unrolled_readable : (g : Grammar) → AreUnrolled g → HasReadableCounts g
unrolled_readable g u = readable_in_all g (each_uncounted g u)

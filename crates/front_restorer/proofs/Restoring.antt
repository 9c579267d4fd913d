-- What the restorer makes of expressions and rules.
use Rattle.std.proofs.Common.{◌≡◌, List, [], ◌∷◌, Bool, true, false, if◌then◌else◌, refl, ap, ap₂, sym, ◌∙◌, ℕ, ◌+◌, ◌<◌, ◌++◌, suc, length, take, drop, get_or, set, arith, add-one, length-drop, String, Global}
use Rattle.std.proofs.Math.Seq.{drop-cons}
use Rattle.std.proofs.lemmas.List.{drop-set-lt, map-append, take_more, take_more_set}
use Rattle.std.specs.Bool.{Decides}
use Rattle.std.specs.List.{All}
use Rattle.std.proofs.lemmas.List.Elements.{All-head, All-tail}
use Rattle.base_language.specs.Language.Text.{Text}
use Rattle.base_language.specs.Rewritings.Erased.{erased}
use Rattle.base_language.specs.Language.Expression.{Expression, Ident, PosPred, NegPred, Seq, Choice, Opt, Rep, RepOnce, Push, RestoreOnErr, Rule, Grammar, whole, of_pos_pred, of_neg_pred, of_seq_left, of_seq_right, of_choice_left, of_choice_right, of_opt, of_rep, of_rep_once, of_push, of_restore, NodeTag, of_tag}
use Rattle.base_language.specs.Rewritings.Rewriting.{EachBody, no_rules, also_rule}
use Rattle.base_language.specs.Rewritings.Wrapping.{ChangesStack, Wraps, wraps, leaves, RestoresTo, restores_str, restores_insens, restores_range, restores_name, restores_slice, restores_skip, restores_pos_pred, restores_neg_pred, restores_push, restores_push_literal, restores_tag, restores_seq, restores_choice, restores_opt, restores_rep, restores_rep_once}
use Rattle.base_language.proofs.SomeRule.{each_rule}
use Rattle.base_ast.specs.Ast.{text_of}
use Rattle.base_ast.specs.Optimized.{optimized_expression_of, optimized_rule_of, optimized_rules_of}
use Rattle.base_ast.specs.declared.optimized.OptimizedExpr as code
use Rattle.base_ast.specs.declared.optimized.OptimizedRule.{OptimizedRule}
use Rattle.front_restorer.specs.Changing.{changes_by, wrapped_by, restored_by, HasNoWrappers, KeepsWrappers}
use Rattle.front_restorer.specs.Restoring.{HaveNoWrappers, AreSameErased, restored_rule_by, restored_rules_by}
use Rattle.front_restorer.proofs.Deciding.{decided}
use Rattle.front_restorer.proofs.Said.{IsSaid, said, restored_said}

module _ (p : Text → Bool) where
  wrapped_same : (e : Expression) → erased (wrapped_by p e) ≡ erased e
  wrapped_same e = go (changes_by p e)
    where
      go : (b : Bool) → erased (if b then RestoreOnErr e else e) ≡ erased e
      go true = refl
      go false = refl

  pub restored_same : (e : Expression) → erased (restored_by p e) ≡ erased e
  restored_same (PosPred e) = ap PosPred (restored_same e)
  restored_same (NegPred e) = ap NegPred (restored_same e)
  restored_same (Push e) = ap Push (restored_same e)
  restored_same (NodeTag e t) = ap (λ x. NodeTag x t) (restored_same e)
  restored_same (Seq a b) = ap₂ Seq (restored_same a) (restored_same b)
  restored_same (Choice a b) = ap₂ Choice (wrapped_same (restored_by p a) ∙ restored_same a) (wrapped_same (restored_by p b) ∙ restored_same b)
  restored_same (Opt e) = ap Opt (wrapped_same (restored_by p e) ∙ restored_same e)
  restored_same (Rep e) = ap Rep (wrapped_same (restored_by p e) ∙ restored_same e)
  restored_same (RepOnce e) = ap RepOnce (wrapped_same (restored_by p e) ∙ restored_same e)
  restored_same _ = refl

  wrapped_keeps : (e x : Expression) → KeepsWrappers x e → KeepsWrappers x (wrapped_by p e)
  wrapped_keeps e x f = go (changes_by p e)
    where
      go : (b : Bool) → KeepsWrappers x (if b then RestoreOnErr e else e)
      go true y k = of_restore (f y k)
      go false y k = f y k

  pub restored_keeps : (e : Expression) → KeepsWrappers e (restored_by p e)
  restored_keeps (PosPred e) y (of_pos_pred k) = of_pos_pred (restored_keeps e y k)
  restored_keeps (NegPred e) y (of_neg_pred k) = of_neg_pred (restored_keeps e y k)
  restored_keeps (Push e) y (of_push k) = of_push (restored_keeps e y k)
  restored_keeps (NodeTag e t) y (of_tag k) = of_tag (restored_keeps e y k)
  restored_keeps (Seq a b) y (of_seq_left k) = of_seq_left (restored_keeps a y k)
  restored_keeps (Seq a b) y (of_seq_right k) = of_seq_right (restored_keeps b y k)
  restored_keeps (Choice a b) y (of_choice_left k) = of_choice_left (wrapped_keeps (restored_by p a) a (restored_keeps a) y k)
  restored_keeps (Choice a b) y (of_choice_right k) = of_choice_right (wrapped_keeps (restored_by p b) b (restored_keeps b) y k)
  restored_keeps (Opt e) y (of_opt k) = of_opt (wrapped_keeps (restored_by p e) e (restored_keeps e) y k)
  restored_keeps (Rep e) y (of_rep k) = of_rep (wrapped_keeps (restored_by p e) e (restored_keeps e) y k)
  restored_keeps (RepOnce e) y (of_rep_once k) = of_rep_once (wrapped_keeps (restored_by p e) e (restored_keeps e) y k)
  restored_keeps _ y k = k

  pub rules_same : (g : Grammar) → AreSameErased g (restored_rules_by p g)
  rules_same [] = no_rules
  rules_same (r ∷ g) = also_rule (restored_same r.body) (rules_same g)

  module _ (g : Grammar) (t : (n : String Global) → Decides (p (text_of n)) (ChangesStack g (Ident (text_of n)))) where
    wraps_to : (e : Expression) → IsSaid e → Wraps g e (wrapped_by p e)
    wraps_to e s = let d = decided g p t e s in go (changes_by p e) d.0 d.1
      where
        go : (b : Bool) → (b ≡ true → ChangesStack g e) → (ChangesStack g e → b ≡ true) → Wraps g e (if b then RestoreOnErr e else e)
        go true f k = wraps (f refl)
        go false f k = leaves (λ c. let h = k c in cc)

    pub restores : (x : code.OptimizedExpr) → HasNoWrappers (optimized_expression_of x) → RestoresTo g (optimized_expression_of x) (restored_by p (optimized_expression_of x))
    restores (code.Str s) h = restores_str
    restores (code.Insens s) h = restores_insens
    restores (code.Range a b) h = restores_range
    restores (code.Ident s) h = restores_name
    restores (code.PeekSlice i j) h = restores_slice
    restores (code.Skip ss) h = restores_skip
    restores (code.PosPred' a x) h = restores_pos_pred (restores x (λ e k. h e (of_pos_pred k)))
    restores (code.NegPred' a x) h = restores_neg_pred (restores x (λ e k. h e (of_neg_pred k)))
    restores (code.Push' a x) h = restores_push (restores x (λ e k. h e (of_push k)))
    restores (code.PushLiteral s) h = restores_push_literal
    restores (code.NodeTag' a x t) h = restores_tag (restores x (λ e k. h e (of_tag k)))
    restores (code.Seq' a x b y) h = restores_seq (restores x (λ e k. h e (of_seq_left k))) (restores y (λ e k. h e (of_seq_right k)))
    restores (code.Choice' a x b y) h =
        restores_choice (restores x (λ e k. h e (of_choice_left k))) (wraps_to (restored_by p (optimized_expression_of x)) (restored_said p (optimized_expression_of x) (said x)))
        (restores y (λ e k. h e (of_choice_right k))) (wraps_to (restored_by p (optimized_expression_of y)) (restored_said p (optimized_expression_of y) (said y)))
    restores (code.Opt' a x) h = restores_opt (restores x (λ e k. h e (of_opt k))) (wraps_to (restored_by p (optimized_expression_of x)) (restored_said p (optimized_expression_of x) (said x)))
    restores (code.Rep' a x) h = restores_rep (restores x (λ e k. h e (of_rep k))) (wraps_to (restored_by p (optimized_expression_of x)) (restored_said p (optimized_expression_of x) (said x)))
    restores (code.RepOnce' a x) h = restores_rep_once (restores x (λ e k. h e (of_rep_once k))) (wraps_to (restored_by p (optimized_expression_of x)) (restored_said p (optimized_expression_of x) (said x)))
    restores (code.RestoreOnErr' a x) h = absurd (h (optimized_expression_of x) whole)

    abbrev IsBare : Rule → Type 0
    IsBare r = HasNoWrappers r.body

    each : (rs : List OptimizedRule) → All IsBare (optimized_rules_of rs) → EachBody (λ y. RestoresTo g) (optimized_rules_of rs) (restored_rules_by p (optimized_rules_of rs))
    each [] a = no_rules
    each (r ∷ rs) a = also_rule (restores r.expr (All-head IsBare (optimized_rule_of r) (optimized_rules_of rs) a)) (each rs (All-tail IsBare (optimized_rule_of r) (optimized_rules_of rs) a))

    pub each_restored : (rs : List OptimizedRule) → HaveNoWrappers (optimized_rules_of rs) → EachBody (λ y. RestoresTo g) (optimized_rules_of rs) (restored_rules_by p (optimized_rules_of rs))
    each_restored rs h = each rs (each_rule IsBare (optimized_rules_of rs) (λ r c e k. h e (r, c, k)))

-- one rule more has its wrappers, and those behind it stand as they were
pub one_more_restored : (p : Text → Bool) (rs xs : List OptimizedRule) (n : ℕ) (d v : OptimizedRule) → n < length xs
    → optimized_rules_of (take n xs) ≡ restored_rules_by p (optimized_rules_of (take n rs)) → drop n xs ≡ drop n rs
    → optimized_rule_of v ≡ restored_rule_by p (optimized_rule_of (get_or xs n d))
    → (optimized_rules_of (take (n + 1) (set xs n v)) ≡ restored_rules_by p (optimized_rules_of (take (n + 1) rs))) × (drop (n + 1) (set xs n v) ≡ drop (n + 1) rs)
one_more_restored p rs xs n d v inside made others restored =
    let inside_too : n < length rs = omega (arith, length-drop n xs, length-drop n rs, ap length others) in
    let both : get_or xs n d ∷ drop (suc n) xs ≡ get_or rs n d ∷ drop (suc n) rs = sym (drop-cons xs n d inside) ∙ (others ∙ drop-cons rs n d inside_too) in
    let same : get_or xs n d ≡ get_or rs n d = cc in
    let behind : drop (suc n) xs ≡ drop (suc n) rs = cc in (
      rw (take_more_set xs n v inside, take_more rs n d inside_too, map-append optimized_rule_of (take n xs) (v ∷ []), map-append optimized_rule_of (take n rs) (get_or rs n d ∷ []), map-append (restored_rule_by p) (optimized_rules_of (take n rs)) (optimized_rule_of (get_or rs n d) ∷ []))
          (ap₂ (λ before b. before ++ (b ∷ [])) made (restored ∙ ap (λ r. restored_rule_by p (optimized_rule_of r)) same)),
      drop-set-lt (n + 1) xs n v (omega arith) ∙ rw add-one behind,
    )

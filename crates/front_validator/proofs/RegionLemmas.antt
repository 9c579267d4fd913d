-- The nodes of rules' bodies.
use Rattle.std.proofs.Common.{◌≡◌, ℕ, zero, suc, ◌+◌, ◌<◌, ◌≤◌, List, Option, Some, None, slice_get, unwrap_or, length, refl, sym, ◌∙◌, ap, arith, inl, inr, ◌⊎◌}
use Rattle.std.specs.Option.{option_map}
use Rattle.std.proofs.lemmas.Option.{slice_get_within, slice_get-map}
use Rattle.base_graphs.proofs.LeastLemmas.{item_at}
use Rattle.base_language.proofs.Basics.{got_alike}
use Rattle.front_spanned.specs.Nodes.{view, rule_view, rule_views}
use Rattle.front_spanned.specs.Spanned.{Span, Spanned, One, Two, Unary, Binary, SpannedRule}
use Rattle.front_spanned.specs.declared.node.ParserRule.{ParserRule}
use Rattle.front_analysis.specs.Roots.{AreRoots}
use Rattle.front_analysis.specs.Nodes.{all_nodes, size}
use Rattle.front_validator.specs.Regions.{IsNodeOf}
use Rattle.front_analysis.specs.Roots.{root_of, first_of}
use Rattle.front_analysis.proofs.LayoutLemmas.{some_size}

pub got_rule : (rules : List ParserRule) (k : ℕ) (r : SpannedRule) → slice_get (rule_views rules) k ≡ Some r → (rule : ParserRule) × (slice_get rules k ≡ Some rule) × (rule_view rule ≡ r)
got_rule rules k r e = go (slice_get rules k) refl (sym (slice_get-map rule_view rules k) ∙ e)
  where
    go : (o : Option ParserRule) → slice_get rules k ≡ o → option_map rule_view o ≡ Some r → (rule : ParserRule) × (slice_get rules k ≡ Some rule) × (rule_view rule ≡ r)
    go None h f = cc
    go (Some rule) h f = (rule, h, cc)

root_at : (roots : List ℕ) (k i : ℕ) → slice_get roots k ≡ Some i → root_of roots k ≡ i
root_at roots k i e = ap (λ o. unwrap_or o 0) e

module _ (rules : List ParserRule) (roots : List ℕ) (are : AreRoots rules (all_nodes rules) roots) where
  -- the body of a rule is one of its nodes
  pub body_node : (k i : ℕ) (r : SpannedRule) → slice_get (rule_views rules) k ≡ Some r → slice_get roots k ≡ Some i → IsNodeOf rules roots k i r.body
  body_node k i r e f = let (rule, here, same) = got_rule rules k r e in
      let a = are.begin k i rule here f in
      let b : size (view rule.node) ≡ size r.body = ap (λ z. size z.body) same in
      let c = root_at roots k i f in
      record { node = are.lie k i rule here f ∙ ap (λ z. Some z.body) same; first = omega arith; last = omega arith }

  -- the rule whose body has this number
  pub rule_at : (k i : ℕ) → slice_get roots k ≡ Some i → (rule : ParserRule) × (slice_get rules k ≡ Some rule)
  rule_at k i e = let w = slice_get_within roots k i e in let a = are.alike in item_at rules k (omega arith)

  pub has_root : (k : ℕ) (r : SpannedRule) → slice_get (rule_views rules) k ≡ Some r → (i : ℕ) × (slice_get roots k ≡ Some i)
  has_root k r e = let (rule, here, same) = got_rule rules k r e in got_alike rules roots k rule here (sym are.alike)

  -- bodies follow one another
  pub rises : (k m : ℕ) → k < m → m ≤ length roots → suc (root_of roots k) ≤ first_of roots m
  rises k zero l h = absurd (omega arith)
  rises k (suc m) l h = go (rises k m) (item_at roots m (omega arith))
    where
      below : (x y : ℕ) → x < suc y → (x ≡ y) ⊎ (x < y)
      below zero zero h = inl refl
      below zero (suc y) h = inr (omega arith)
      below (suc x) zero h = absurd (omega arith)
      below (suc x) (suc y) h = elim (below x y (omega arith)) [ inl e ↦ inl (ap suc e) | inr e ↦ inr (omega arith) ]

      go : (k < m → m ≤ length roots → suc (root_of roots k) ≤ first_of roots m) → (i : ℕ) × (slice_get roots m ≡ Some i) → suc (root_of roots k) ≤ suc (root_of roots m)
      go f (i, e) = elim (below k m (omega arith)) [
        | inl s ↦ (let t = ap (λ z. root_of roots z) s in omega arith)
        | inr s ↦ (
            let a = f s (omega arith) in
            let (rule, at) = item_at rules m (let n = are.alike in let w = slice_get_within roots m i e in omega arith) in
            let b = are.begin m i rule at e in
            let c = some_size (view rule.node) in
            let d = root_at roots m i e in
            omega arith)
      ]

  -- the nodes inside a node are of the same body
  pub node_inside : (k i j : ℕ) (s : Span) (f : Unary) (x : Spanned) → IsNodeOf rules roots k i (One s f x) → slice_get (all_nodes rules) j ≡ Some x → suc j ≡ i → IsNodeOf rules roots k j x
  node_inside k i j s f x n e l = let a = n.first in let b = n.last in record { node = e; first = omega arith; last = omega arith }

  pub node_second : (k i j : ℕ) (s : Span) (f : Binary) (x y : Spanned) → IsNodeOf rules roots k i (Two s f x y) → slice_get (all_nodes rules) j ≡ Some y → suc j ≡ i → IsNodeOf rules roots k j y
  node_second k i j s f x y n e l = let a = n.first in let b = n.last in record { node = e; first = omega arith; last = omega arith }

  pub node_first : (k i j l : ℕ) (s : Span) (f : Binary) (x y : Spanned) → IsNodeOf rules roots k i (Two s f x y) → slice_get (all_nodes rules) j ≡ Some x → suc l ≡ i → j + size y ≡ l → IsNodeOf rules roots k j x
  node_first k i j l s f x y n e h g = let a = n.first in let b = n.last in record { node = e; first = omega arith; last = omega arith }

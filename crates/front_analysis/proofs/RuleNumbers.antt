-- For each node the number of its rule.
use Rattle.std.proofs.Common.{◌≡◌, ◌∙◌, ℕ, suc, ◌+◌, List, [], ◌∷◌, ◌++◌, replicate, length, sym, ap, arith}
use Rattle.std.proofs.lemmas.List.{append_assoc, append-nil, map-append}
use Rattle.front_spanned.specs.Nodes.{view}
use Rattle.front_spanned.specs.declared.node.ParserRule.{ParserRule}
use Rattle.front_analysis.specs.Layout.{rule_numbers}
use Rattle.front_analysis.specs.Nodes.{size}
use Rattle.front_analysis.specs.Roots.{rules_by_node}
use Rattle.front_analysis.specs.declared.table.Node.{Node}

pub numbers_push : (old new : List Node) (n : Node) → new ≡ old ++ n ∷ [] → rule_numbers new ≡ rule_numbers old ++ n.rule ∷ []
numbers_push old new n e = ap (λ z. rule_numbers z) e ∙ map-append (λ (m : Node). m.rule) old (n ∷ [])

-- one number that is put, of those that are wanted
pub numbers_step : (now next all : List ℕ) (count left k : ℕ) → next ≡ now ++ k ∷ [] → count ≡ suc left → now ++ replicate count k ≡ all → next ++ replicate left k ≡ all
numbers_step now next all count left k e c h =
    ap (λ z. z ++ replicate left k) e ∙ (append_assoc now (k ∷ []) (replicate left k) ∙ (ap (λ n. now ++ replicate n k) (sym c) ∙ h))

-- one rule more
pub rules_more : (k : ℕ) (rules : List ParserRule) (r : ParserRule) → rules_by_node k (rules ++ r ∷ []) ≡ rules_by_node k rules ++ replicate (size (view r.node)) (k + length rules)
rules_more k [] r = append-nil (replicate (size (view r.node)) k) ∙ ap (replicate (size (view r.node))) (let e : k ≡ k + 0 = omega arith in e)
rules_more k (q ∷ rules) r =
    ap (λ z. replicate (size (view q.node)) k ++ z) (rules_more (suc k) rules r ∙ ap (λ n. rules_by_node (suc k) rules ++ replicate (size (view r.node)) n) (let e : suc k + length rules ≡ k + suc (length rules) = omega arith in e))
    ∙ sym (append_assoc (replicate (size (view q.node)) k) (rules_by_node (suc k) rules) (replicate (size (view r.node)) (k + suc (length rules))))

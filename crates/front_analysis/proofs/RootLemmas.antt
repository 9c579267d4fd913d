-- The bodies of rules lie among the nodes of all bodies.
use Rattle.std.proofs.Common.{◌≡◌, ℕ, zero, suc, ◌+◌, ◌<◌, ◌≤◌, ◌⊎◌, inl, inr, List, [], ◌∷◌, ◌++◌, Some, slice_get, length, refl, sym, ◌∙◌, ap, subst, arith}
use Rattle.std.proofs.lemmas.Option.{slice_get_within}
use Rattle.std.proofs.lemmas.List.{length_push, length-append, append_assoc, append-nil}
use Rattle.base_language.proofs.Basics.{got_more}
use Rattle.front_spanned.specs.Nodes.{view}
use Rattle.front_spanned.specs.Spanned.{Spanned}
use Rattle.front_spanned.specs.declared.node.ParserRule.{ParserRule}
use Rattle.front_analysis.specs.Nodes.{all_nodes, size, postorder}
use Rattle.front_analysis.specs.Roots.{root_of, first_of, AreRoots}
use Rattle.front_analysis.proofs.Numbered.{got_before}

-- the nodes of one rule more
pub nodes_more : (rules : List ParserRule) (rule : ParserRule) → all_nodes (rules ++ rule ∷ []) ≡ all_nodes rules ++ postorder (view rule.node)
nodes_more [] rule = append-nil (postorder (view rule.node))
nodes_more (r ∷ rules) rule = ap (λ z. postorder (view r.node) ++ z) (nodes_more rules rule) ∙ sym (append_assoc (postorder (view r.node)) (all_nodes rules) (postorder (view rule.node)))

front_root : (xs : List ℕ) (y i : ℕ) → i < length xs → root_of (xs ++ y ∷ []) i ≡ root_of xs i
front_root [] y i l = absurd (omega arith)
front_root (x ∷ xs) y zero l = refl
front_root (x ∷ xs) y (suc i) l = front_root xs y i (omega arith)

end_root : (xs : List ℕ) (y : ℕ) → root_of (xs ++ y ∷ []) (length xs) ≡ y
end_root [] y = refl
end_root (x ∷ xs) y = end_root xs y

front_first : (xs : List ℕ) (y r : ℕ) → r ≤ length xs → first_of (xs ++ y ∷ []) r ≡ first_of xs r
front_first xs y zero l = refl
front_first xs y (suc r) l = ap suc (front_root xs y r (omega arith))

pub root_step : (rs : List ParserRule) (rule : ParserRule) (nodes more : List Spanned) (roots : List ℕ) (root : ℕ) → slice_get (nodes ++ more) root ≡ Some (view rule.node) → length (nodes ++ more) ≡ root + 1 → length more ≡ size (view rule.node)
    → AreRoots rs nodes roots → AreRoots (rs ++ rule ∷ []) (nodes ++ more) (roots ++ root ∷ [])
root_step rs rule nodes more roots root at long own h = record {
  alike = (let a = length_push roots root in let b = length_push rs rule in let c = h.alike in omega arith);
  lie = λ r i q e f. go r i q (got_more rs rule r q e) (got_more roots root r i f);
  begin = λ r i q e f. first r i q (got_more rs rule r q e) (got_more roots root r i f);
  full = (let a = length_push roots root in let n : length (roots ++ root ∷ []) ≡ suc (length roots) = omega arith in
      ap (first_of (roots ++ root ∷ [])) n ∙ (ap suc (end_root roots root) ∙ (let s : suc root ≡ root + 1 = omega arith in s ∙ sym long)));
}
  where
    go : (r i : ℕ) (q : ParserRule) → (slice_get rs r ≡ Some q) ⊎ ((r ≡ length rs) × (rule ≡ q)) → (slice_get roots r ≡ Some i) ⊎ ((r ≡ length roots) × (root ≡ i)) → slice_get (nodes ++ more) i ≡ Some (view q.node)
    go r i q (inl e) (inl f) = got_before nodes more i (view q.node) (h.lie r i q e f)
    go r i q (inr e) (inr f) = subst (λ p. slice_get (nodes ++ more) i ≡ Some (view p.node)) e.1 (subst (λ j. slice_get (nodes ++ more) j ≡ Some (view rule.node)) f.1 at)
    go r i q (inl e) (inr f) = let w = slice_get_within rs r q e in let c = h.alike in let d = f.0 in absurd (omega arith)
    go r i q (inr e) (inl f) = let w = slice_get_within roots r i f in let c = h.alike in let d = e.0 in absurd (omega arith)

    first : (r i : ℕ) (q : ParserRule) → (slice_get rs r ≡ Some q) ⊎ ((r ≡ length rs) × (rule ≡ q)) → (slice_get roots r ≡ Some i) ⊎ ((r ≡ length roots) × (root ≡ i)) → first_of (roots ++ root ∷ []) r + size (view q.node) ≡ i + 1
    first r i q (inl e) (inl f) = let w = slice_get_within roots r i f in let a = front_first roots root r (omega arith) in let b = h.begin r i q e f in omega arith
    first r i q (inr e) (inr f) =
        let a = front_first roots root (length roots) (omega arith) in
        let b = h.full in
        let d = length-append nodes more in
        let m : size (view rule.node) ≡ size (view q.node) = ap (λ p. size (view p.node)) e.1 in
        let n : first_of (roots ++ root ∷ []) r ≡ first_of (roots ++ root ∷ []) (length roots) = ap (first_of (roots ++ root ∷ [])) f.0 in
        let o = f.1 in
        omega arith
    first r i q (inl e) (inr f) = let w = slice_get_within rs r q e in let c = h.alike in let d = f.0 in absurd (omega arith)
    first r i q (inr e) (inl f) = let w = slice_get_within roots r i f in let c = h.alike in let d = e.0 in absurd (omega arith)

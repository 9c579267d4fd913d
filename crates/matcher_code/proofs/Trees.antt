-- Trees as a list.
use Rattle.std.proofs.Common.{◌≡◌, refl, sym, ◌∙◌, ap, ap₂, ℕ, suc, ◌+◌, List, [], ◌∷◌, ◌++◌, length, arith, add-zero, append_assoc, append-nil, length-append}
use Rattle.std.specs.Prelude.{slice_set}
use Rattle.std.proofs.Math.Seq.{get_or-append_seam, set-append_seam}
use Rattle.base_language.specs.Language.Text.{Text}
use Rattle.base_language.specs.Language.State.{Trees, None', Tree, joined}
use Rattle.matcher_code.specs.declared.state.TreeNode.{TreeNode}
use Rattle.matcher_code.specs.Steps.{new_tree, close_tree, no_tree}
use Rattle.matcher_code.specs.Reached.{count_of, nodes_of}

module _ (number : Text → ℕ) where
  pub nodes_count : (n : ℕ) (us : Trees) → length (nodes_of number n us) ≡ count_of us
  nodes_count n None' = refl
  nodes_count n (Tree r i j inner others) =
      let a = length-append (nodes_of number (suc n) inner) (nodes_of number (suc n + count_of inner) others) in
      let b = nodes_count (suc n) inner in
      let c = nodes_count (suc n + count_of inner) others in
      omega (arith, a, b, c)

  pub nodes_joined : (n : ℕ) (us vs : Trees)
      → nodes_of number n (joined us vs) ≡ nodes_of number n us ++ nodes_of number (n + count_of us) vs
  nodes_joined n None' vs = ap (λ i. nodes_of number i vs) (sym (add-zero n))
  nodes_joined n (Tree r i j inner others) vs =
      let front = nodes_of number (suc n) inner in
      let k = suc n + count_of inner in
      let m : k + count_of others ≡ n + suc (count_of inner + count_of others) = omega arith in
      ap (λ ns. record { rule = number r; start = i; end = j; after = k } ∷ (front ++ ns))
      (nodes_joined k others vs ∙ ap (λ x. nodes_of number k others ++ nodes_of number x vs) m)
      ∙ ap (λ ns. record { rule = number r; start = i; end = j; after = k } ∷ ns)
      (sym (append_assoc front (nodes_of number k others) (nodes_of number (n + suc (count_of inner + count_of others)) vs)))

  -- trees behind others
  pub nodes_behind : (ns : List TreeNode) (us vs : Trees)
      → (ns ++ nodes_of number (length ns) us) ++ nodes_of number (length (ns ++ nodes_of number (length ns) us)) vs
      ≡ ns ++ nodes_of number (length ns) (joined us vs)
  nodes_behind ns us vs =
      let l : length (ns ++ nodes_of number (length ns) us) ≡ length ns + count_of us =
      length-append ns (nodes_of number (length ns) us) ∙ ap (λ x. length ns + x) (nodes_count (length ns) us) in
      ap (λ x. (ns ++ nodes_of number (length ns) us) ++ nodes_of number x vs) l
      ∙ (append_assoc ns (nodes_of number (length ns) us) (nodes_of number (length ns + count_of us) vs)
      ∙ ap (λ x. ns ++ x) (sym (nodes_joined (length ns) us vs)))

  close_at_seam : (ns ms : List TreeNode) (x : TreeNode) (at : ℕ) → close_tree (length ns) at (ns ++ x ∷ ms)
      ≡ ns ++ record { rule = x.rule; start = x.start; end = at; after = length (ns ++ x ∷ ms) } ∷ ms
  close_at_seam ns ms x at =
      ap (λ y. slice_set (ns ++ x ∷ ms) (length ns) (record { rule = y.rule; start = y.start; end = at; after = length (ns ++ x ∷ ms) }))
      (get_or-append_seam ns x ms no_tree)
      ∙ set-append_seam ns x ms (record { rule = x.rule; start = x.start; end = at; after = length (ns ++ x ∷ ms) })

  -- the tree of a call that is found
  pub nodes_of_call : (ns : List TreeNode) (r : Text) (from at : ℕ) (us : Trees)
      → close_tree (length ns) at ((ns ++ new_tree (number r) from ∷ []) ++ nodes_of number (length (ns ++ new_tree (number r) from ∷ [])) us)
      ≡ ns ++ nodes_of number (length ns) (Tree r from at us None')
  nodes_of_call ns r from at us =
      let x = new_tree (number r) from in
      let l : length (ns ++ x ∷ []) ≡ suc (length ns) = omega (arith, length-append ns (x ∷ [])) in
      let ms = nodes_of number (suc (length ns)) us in
      let a : (ns ++ x ∷ []) ++ nodes_of number (length (ns ++ x ∷ [])) us ≡ ns ++ x ∷ ms =
      ap (λ k. (ns ++ x ∷ []) ++ nodes_of number k us) l ∙ append_assoc ns (x ∷ []) ms in
      let m : length (ns ++ x ∷ ms) ≡ suc (length ns) + count_of us =
      omega (arith, length-append ns (x ∷ ms), nodes_count (suc (length ns)) us) in
      ap (close_tree (length ns) at) a
      ∙ (close_at_seam ns ms x at
      ∙ ap₂ (λ k t. ns ++ record { rule = number r; start = from; end = at; after = k } ∷ t) m (sym (append-nil ms)))

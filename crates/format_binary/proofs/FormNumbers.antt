-- What follows the number of a form.
use Rattle.std.proofs.Common.{◌≡◌, refl, sym, ◌∙◌, ap, subst, ℕ, ℤ, ◌<◌, ◌==◌, Option, Some, None, List, [], ◌∷◌, ◌++◌, cond, String, Global, append_assoc, arith, drop, length, length-append}
use Rattle.std.proofs.lemmas.Bool.{ne_eqb}
use Rattle.base_ast.specs.declared.optimized.OptimizedExpr as optimized
use Rattle.format_binary.specs.Format.{end_bytes, index_bytes, list_bytes, optimized_expression_bytes}
use Rattle.format_binary.specs.Fronts.{BeginsWithEnd, BeginsWithExpression, BeginsWithText, BeginsWithTexts, Texts, item_bytes}
use Rattle.format_binary.proofs.Decoding.{after_end, end_tail, index_tail}
use Rattle.format_binary.proofs.Refused.{head_is, tail_is, text_ends}

-- the kind of arguments of a form, by its number: a text, a range, a slice, one operand, two, texts, a tag, none
abbrev pub kind_of : ℕ → ℕ
kind_of b =
    cond (b == 0) 0 (
    cond (b == 1) 0 (
    cond (b == 2) 1 (
    cond (b == 3) 0 (
    cond (b == 4) 2 (
    cond (b == 5) 3 (
    cond (b == 6) 3 (
    cond (b == 7) 4 (
    cond (b == 8) 4 (
    cond (b == 9) 3 (
    cond (b == 10) 3 (
    cond (b == 11) 3 (
    cond (b == 16) 5 (
    cond (b == 17) 3 (
    cond (b == 18) 0 (
    cond (b == 19) 6 (
    cond (b == 20) 3 7))))))))))))))))

-- a number of no form
pub unknown_kind : (b : ℕ) → (((((((((((((((((Unit {0} × (b ≡ 0 → ⊥)) × (b ≡ 1 → ⊥)) × (b ≡ 2 → ⊥)) × (b ≡ 3 → ⊥)) × (b ≡ 4 → ⊥)) × (b ≡ 5 → ⊥)) × (b ≡ 6 → ⊥)) × (b ≡ 7 → ⊥)) × (b ≡ 8 → ⊥)) × (b ≡ 9 → ⊥)) × (b ≡ 10 → ⊥)) × (b ≡ 11 → ⊥)) × (b ≡ 16 → ⊥)) × (b ≡ 17 → ⊥)) × (b ≡ 18 → ⊥)) × (b ≡ 19 → ⊥)) × (b ≡ 20 → ⊥)) → kind_of b ≡ 7
unknown_kind b h = rw (ne_eqb b 0 h.0.0.0.0.0.0.0.0.0.0.0.0.0.0.0.0.1, ne_eqb b 1 h.0.0.0.0.0.0.0.0.0.0.0.0.0.0.0.1, ne_eqb b 2 h.0.0.0.0.0.0.0.0.0.0.0.0.0.0.1, ne_eqb b 3 h.0.0.0.0.0.0.0.0.0.0.0.0.0.1, ne_eqb b 4 h.0.0.0.0.0.0.0.0.0.0.0.0.1, ne_eqb b 5 h.0.0.0.0.0.0.0.0.0.0.0.1, ne_eqb b 6 h.0.0.0.0.0.0.0.0.0.0.1, ne_eqb b 7 h.0.0.0.0.0.0.0.0.0.1, ne_eqb b 8 h.0.0.0.0.0.0.0.0.1, ne_eqb b 9 h.0.0.0.0.0.0.0.1, ne_eqb b 10 h.0.0.0.0.0.0.1, ne_eqb b 11 h.0.0.0.0.0.1, ne_eqb b 16 h.0.0.0.0.1, ne_eqb b 17 h.0.0.0.1, ne_eqb b 18 h.0.0.1, ne_eqb b 19 h.0.1, ne_eqb b 20 h.1) refl

index_long : (z : ℤ) → length (index_bytes z) ≡ 4
unfolding index_bytes
index_long z = refl

pub data Node (mid rest : List ℕ) (b : ℕ) : Type 0 where
  texted : kind_of b ≡ 0 → (s : String Global) → mid ≡ item_bytes s ++ rest → Node mid rest b
  ranged : kind_of b ≡ 1 → (s v : String Global) → mid ≡ item_bytes s ++ (item_bytes v ++ rest) → Node mid rest b
  sliced : kind_of b ≡ 2 → (i : ℤ) (j : Option ℤ) → mid ≡ index_bytes i ++ (end_bytes j ++ rest) → Node mid rest b
  single : kind_of b ≡ 3 → (x : optimized.OptimizedExpr) → mid ≡ optimized_expression_bytes x ++ rest → Node mid rest b
  double : kind_of b ≡ 4 → (x y : optimized.OptimizedExpr) → mid ≡ optimized_expression_bytes x ++ (optimized_expression_bytes y ++ rest) → Node mid rest b
  skipping : kind_of b ≡ 5 → (ss : Texts) → mid ≡ list_bytes item_bytes ss.items ++ rest → Node mid rest b
  tagging : kind_of b ≡ 6 → (s : String Global) (x : optimized.OptimizedExpr) → mid ≡ item_bytes s ++ (optimized_expression_bytes x ++ rest) → Node mid rest b

-- the node of an expression whose number was read
pub node_in : (x : optimized.OptimizedExpr) (b : ℕ) (mid rest : List ℕ) → b ∷ mid ≡ optimized_expression_bytes x ++ rest → Node mid rest b
node_in (optimized.Str s) b mid rest e = subst (Node mid rest) (head_is e) (texted refl s (tail_is e))
node_in (optimized.Insens s) b mid rest e = subst (Node mid rest) (head_is e) (texted refl s (tail_is e))
node_in (optimized.Range s v) b mid rest e = subst (Node mid rest) (head_is e) (ranged refl s v (tail_is e ∙ append_assoc (item_bytes s) (item_bytes v) rest))
node_in (optimized.Ident s) b mid rest e = subst (Node mid rest) (head_is e) (texted refl s (tail_is e))
node_in (optimized.PeekSlice i j) b mid rest e = subst (Node mid rest) (head_is e) (sliced refl i j (tail_is e ∙ append_assoc (index_bytes i) (end_bytes j) rest))
node_in (optimized.PosPred' p y) b mid rest e = subst (Node mid rest) (head_is e) (single refl y (tail_is e))
node_in (optimized.NegPred' p y) b mid rest e = subst (Node mid rest) (head_is e) (single refl y (tail_is e))
node_in (optimized.Seq' p y q z) b mid rest e = subst (Node mid rest) (head_is e) (double refl y z (tail_is e ∙ append_assoc (optimized_expression_bytes y) (optimized_expression_bytes z) rest))
node_in (optimized.Choice' p y q z) b mid rest e = subst (Node mid rest) (head_is e) (double refl y z (tail_is e ∙ append_assoc (optimized_expression_bytes y) (optimized_expression_bytes z) rest))
node_in (optimized.Opt' p y) b mid rest e = subst (Node mid rest) (head_is e) (single refl y (tail_is e))
node_in (optimized.Rep' p y) b mid rest e = subst (Node mid rest) (head_is e) (single refl y (tail_is e))
node_in (optimized.RepOnce' p y) b mid rest e = subst (Node mid rest) (head_is e) (single refl y (tail_is e))
node_in (optimized.Skip ss) b mid rest e = subst (Node mid rest) (head_is e) (skipping refl ss (tail_is e))
node_in (optimized.Push' p y) b mid rest e = subst (Node mid rest) (head_is e) (single refl y (tail_is e))
node_in (optimized.PushLiteral s) b mid rest e = subst (Node mid rest) (head_is e) (texted refl s (tail_is e))
node_in (optimized.NodeTag' p y s) b mid rest e = subst (Node mid rest) (head_is e) (tagging refl s y (tail_is e ∙ append_assoc (item_bytes s) (optimized_expression_bytes y) rest))
node_in (optimized.RestoreOnErr' p y) b mid rest e = subst (Node mid rest) (head_is e) (single refl y (tail_is e))

module _ (mid rest : List ℕ) (b : ℕ) where
  pub text_of_node : kind_of b ≡ 0 → Node mid rest b → (s : String Global) × (mid ≡ item_bytes s ++ rest)
  text_of_node g (texted h s e) = (s, e)
  text_of_node g (ranged h s v e) = absurd (omega (arith, sym g ∙ h))
  text_of_node g (sliced h i j e) = absurd (omega (arith, sym g ∙ h))
  text_of_node g (single h x e) = absurd (omega (arith, sym g ∙ h))
  text_of_node g (double h x y e) = absurd (omega (arith, sym g ∙ h))
  text_of_node g (skipping h ss e) = absurd (omega (arith, sym g ∙ h))
  text_of_node g (tagging h s x e) = absurd (omega (arith, sym g ∙ h))

  pub range_of_node : kind_of b ≡ 1 → Node mid rest b → (s : String Global) × (v : String Global) × (mid ≡ item_bytes s ++ (item_bytes v ++ rest))
  range_of_node g (texted h s e) = absurd (omega (arith, sym g ∙ h))
  range_of_node g (ranged h s v e) = (s, v, e)
  range_of_node g (sliced h i j e) = absurd (omega (arith, sym g ∙ h))
  range_of_node g (single h x e) = absurd (omega (arith, sym g ∙ h))
  range_of_node g (double h x y e) = absurd (omega (arith, sym g ∙ h))
  range_of_node g (skipping h ss e) = absurd (omega (arith, sym g ∙ h))
  range_of_node g (tagging h s x e) = absurd (omega (arith, sym g ∙ h))

  pub slice_of_node : kind_of b ≡ 2 → Node mid rest b → (i : ℤ) × (j : Option ℤ) × (mid ≡ index_bytes i ++ (end_bytes j ++ rest))
  slice_of_node g (texted h s e) = absurd (omega (arith, sym g ∙ h))
  slice_of_node g (ranged h s v e) = absurd (omega (arith, sym g ∙ h))
  slice_of_node g (sliced h i j e) = (i, j, e)
  slice_of_node g (single h x e) = absurd (omega (arith, sym g ∙ h))
  slice_of_node g (double h x y e) = absurd (omega (arith, sym g ∙ h))
  slice_of_node g (skipping h ss e) = absurd (omega (arith, sym g ∙ h))
  slice_of_node g (tagging h s x e) = absurd (omega (arith, sym g ∙ h))

  pub one_of_node : kind_of b ≡ 3 → Node mid rest b → (x : optimized.OptimizedExpr) × (mid ≡ optimized_expression_bytes x ++ rest)
  one_of_node g (texted h s e) = absurd (omega (arith, sym g ∙ h))
  one_of_node g (ranged h s v e) = absurd (omega (arith, sym g ∙ h))
  one_of_node g (sliced h i j e) = absurd (omega (arith, sym g ∙ h))
  one_of_node g (single h x e) = (x, e)
  one_of_node g (double h x y e) = absurd (omega (arith, sym g ∙ h))
  one_of_node g (skipping h ss e) = absurd (omega (arith, sym g ∙ h))
  one_of_node g (tagging h s x e) = absurd (omega (arith, sym g ∙ h))

  pub two_of_node : kind_of b ≡ 4 → Node mid rest b → (x : optimized.OptimizedExpr) × (y : optimized.OptimizedExpr) × (mid ≡ optimized_expression_bytes x ++ (optimized_expression_bytes y ++ rest))
  two_of_node g (texted h s e) = absurd (omega (arith, sym g ∙ h))
  two_of_node g (ranged h s v e) = absurd (omega (arith, sym g ∙ h))
  two_of_node g (sliced h i j e) = absurd (omega (arith, sym g ∙ h))
  two_of_node g (single h x e) = absurd (omega (arith, sym g ∙ h))
  two_of_node g (double h x y e) = (x, y, e)
  two_of_node g (skipping h ss e) = absurd (omega (arith, sym g ∙ h))
  two_of_node g (tagging h s x e) = absurd (omega (arith, sym g ∙ h))

  pub texts_of_node : kind_of b ≡ 5 → Node mid rest b → (ss : Texts) × (mid ≡ list_bytes item_bytes ss.items ++ rest)
  texts_of_node g (texted h s e) = absurd (omega (arith, sym g ∙ h))
  texts_of_node g (ranged h s v e) = absurd (omega (arith, sym g ∙ h))
  texts_of_node g (sliced h i j e) = absurd (omega (arith, sym g ∙ h))
  texts_of_node g (single h x e) = absurd (omega (arith, sym g ∙ h))
  texts_of_node g (double h x y e) = absurd (omega (arith, sym g ∙ h))
  texts_of_node g (skipping h ss e) = (ss, e)
  texts_of_node g (tagging h s x e) = absurd (omega (arith, sym g ∙ h))

  pub tag_of_node : kind_of b ≡ 6 → Node mid rest b → (s : String Global) × (x : optimized.OptimizedExpr) × (mid ≡ item_bytes s ++ (optimized_expression_bytes x ++ rest))
  tag_of_node g (texted h s e) = absurd (omega (arith, sym g ∙ h))
  tag_of_node g (ranged h s v e) = absurd (omega (arith, sym g ∙ h))
  tag_of_node g (sliced h i j e) = absurd (omega (arith, sym g ∙ h))
  tag_of_node g (single h x e) = absurd (omega (arith, sym g ∙ h))
  tag_of_node g (double h x y e) = absurd (omega (arith, sym g ∙ h))
  tag_of_node g (skipping h ss e) = absurd (omega (arith, sym g ∙ h))
  tag_of_node g (tagging h s x e) = (s, x, e)

  pub no_node : kind_of b ≡ 7 → Node mid rest b → ⊥
  no_node g (texted h s e) = absurd (omega (arith, sym g ∙ h))
  no_node g (ranged h s v e) = absurd (omega (arith, sym g ∙ h))
  no_node g (sliced h i j e) = absurd (omega (arith, sym g ∙ h))
  no_node g (single h x e) = absurd (omega (arith, sym g ∙ h))
  no_node g (double h x y e) = absurd (omega (arith, sym g ∙ h))
  no_node g (skipping h ss e) = absurd (omega (arith, sym g ∙ h))
  no_node g (tagging h s x e) = absurd (omega (arith, sym g ∙ h))

-- no expression has no bytes
no_bytes : (x : optimized.OptimizedExpr) (rest : List ℕ) → [] ≡ optimized_expression_bytes x ++ rest → ⊥
no_bytes (optimized.Str s) rest e = cc
no_bytes (optimized.Insens s) rest e = cc
no_bytes (optimized.Range s v) rest e = cc
no_bytes (optimized.Ident s) rest e = cc
no_bytes (optimized.PeekSlice i j) rest e = cc
no_bytes (optimized.PosPred' p y) rest e = cc
no_bytes (optimized.NegPred' p y) rest e = cc
no_bytes (optimized.Seq' p y q z) rest e = cc
no_bytes (optimized.Choice' p y q z) rest e = cc
no_bytes (optimized.Opt' p y) rest e = cc
no_bytes (optimized.Rep' p y) rest e = cc
no_bytes (optimized.RepOnce' p y) rest e = cc
no_bytes (optimized.Skip ss) rest e = cc
no_bytes (optimized.Push' p y) rest e = cc
no_bytes (optimized.PushLiteral s) rest e = cc
no_bytes (optimized.NodeTag' p y s) rest e = cc
no_bytes (optimized.RestoreOnErr' p y) rest e = cc

pub nothing_left : (old : List ℕ) → old ≡ [] → BeginsWithExpression old → ⊥
nothing_left old e b = no_bytes b.value b.rest (sym e ∙ b.same)

module _ (old mid : List ℕ) (b : ℕ) (e : old ≡ b ∷ mid) where
  node_at : (x : optimized.OptimizedExpr) (rest : List ℕ) → old ≡ optimized_expression_bytes x ++ rest → Node mid rest b
  node_at x rest f = node_in x b mid rest (sym e ∙ f)

  pub text_front : kind_of b ≡ 0 → BeginsWithExpression old → BeginsWithText mid
  text_front k f = let q = text_of_node mid f.rest b k (node_at f.value f.rest f.same) in record { value = q.0; rest = f.rest; same = q.1 }

  pub text_end : kind_of b ≡ 0 → (s : String Global) (new : List ℕ) → mid ≡ item_bytes s ++ new → (x : optimized.OptimizedExpr) (rest : List ℕ) → old ≡ optimized_expression_bytes x ++ rest → new ≡ rest
  text_end k s new g x rest f = let q = text_of_node mid rest b k (node_at x rest f) in text_ends mid new rest s q.0 g q.1

  pub one_follows : kind_of b ≡ 3 → (x : optimized.OptimizedExpr) (rest : List ℕ) → old ≡ optimized_expression_bytes x ++ rest → (y : optimized.OptimizedExpr) × (mid ≡ optimized_expression_bytes y ++ rest)
  one_follows k x rest f = one_of_node mid rest b k (node_at x rest f)

  pub two_follow : kind_of b ≡ 4 → (x : optimized.OptimizedExpr) (rest : List ℕ) → old ≡ optimized_expression_bytes x ++ rest
      → (y : optimized.OptimizedExpr) × (z : optimized.OptimizedExpr) × (mid ≡ optimized_expression_bytes y ++ (optimized_expression_bytes z ++ rest))
  two_follow k x rest f = two_of_node mid rest b k (node_at x rest f)

  pub texts_front : kind_of b ≡ 5 → BeginsWithExpression old → BeginsWithTexts mid
  texts_front k f = let q = texts_of_node mid f.rest b k (node_at f.value f.rest f.same) in record { value = q.0; rest = f.rest; same = q.1 }

  pub texts_end : kind_of b ≡ 5 → (new : List ℕ) → ((ss : Texts) (rest : List ℕ) → mid ≡ list_bytes item_bytes ss.items ++ rest → new ≡ rest)
      → (x : optimized.OptimizedExpr) (rest : List ℕ) → old ≡ optimized_expression_bytes x ++ rest → new ≡ rest
  texts_end k new ends x rest f = let q = texts_of_node mid rest b k (node_at x rest f) in ends q.0 rest q.1

  pub tag_front : kind_of b ≡ 6 → BeginsWithExpression old → BeginsWithText mid
  tag_front k f = let q = tag_of_node mid f.rest b k (node_at f.value f.rest f.same) in record { value = q.0; rest = optimized_expression_bytes q.1 ++ f.rest; same = q.2 }

  pub tag_follows : kind_of b ≡ 6 → (s : String Global) (new : List ℕ) → mid ≡ item_bytes s ++ new → (x : optimized.OptimizedExpr) (rest : List ℕ) → old ≡ optimized_expression_bytes x ++ rest
      → (y : optimized.OptimizedExpr) × (new ≡ optimized_expression_bytes y ++ rest)
  tag_follows k s new g x rest f =
      let q = tag_of_node mid rest b k (node_at x rest f) in
      (q.1, text_ends mid new (optimized_expression_bytes q.1 ++ rest) s q.0 g q.2)

  pub unknown_node : kind_of b ≡ 7 → BeginsWithExpression old → ⊥
  unknown_node k f = no_node mid f.rest b k (node_at f.value f.rest f.same)

-- the texts of a range
module _ (old : List ℕ) where
  pub range_first : BeginsWithExpression (2 ∷ old) → BeginsWithText old
  range_first f = let q = range_of_node old f.rest 2 refl (node_in f.value 2 old f.rest f.same) in record { value = q.0; rest = item_bytes q.1 ++ f.rest; same = q.2 }

  module _ (mid : List ℕ) (s : String Global) (e : old ≡ item_bytes s ++ mid) where
    second : (x : optimized.OptimizedExpr) (rest : List ℕ) → 2 ∷ old ≡ optimized_expression_bytes x ++ rest → (v : String Global) × (mid ≡ item_bytes v ++ rest)
    second x rest f =
        let q = range_of_node old rest 2 refl (node_in x 2 old rest f) in
        (q.1, text_ends old mid (item_bytes q.1 ++ rest) s q.0 e q.2)

    pub range_second : BeginsWithExpression (2 ∷ old) → BeginsWithText mid
    range_second f = let q = second f.value f.rest f.same in record { value = q.0; rest = f.rest; same = q.1 }

    pub range_end : (v : String Global) (new : List ℕ) → mid ≡ item_bytes v ++ new → (x : optimized.OptimizedExpr) (rest : List ℕ) → 2 ∷ old ≡ optimized_expression_bytes x ++ rest → new ≡ rest
    range_end v new g x rest f = let q = second x rest f in text_ends mid new rest v q.0 g q.1

  -- the bounds of a slice
  pub slice_short : length old < 4 → BeginsWithExpression (4 ∷ old) → ⊥
  slice_short l f =
      let q = slice_of_node old f.rest 4 refl (node_in f.value 4 old f.rest f.same) in
      let whole = ap length q.2 in
      let parts = length-append (index_bytes q.0) (end_bytes q.1 ++ f.rest) in
      let four = index_long q.0 in
      omega (arith, l, whole, parts, four)

  module _ (mid : List ℕ) (i : ℤ) (e : old ≡ index_bytes i ++ mid) where
    end_of : (x : optimized.OptimizedExpr) (rest : List ℕ) → 4 ∷ old ≡ optimized_expression_bytes x ++ rest → (j : Option ℤ) × (mid ≡ end_bytes j ++ rest)
    end_of x rest f =
        let q = slice_of_node old rest 4 refl (node_in x 4 old rest f) in
        (q.1, sym (index_tail i mid) ∙ (ap (drop 4) (sym e ∙ q.2) ∙ index_tail q.0 (end_bytes q.1 ++ rest)))

    pub slice_second : BeginsWithExpression (4 ∷ old) → BeginsWithEnd mid
    slice_second f = let q = end_of f.value f.rest f.same in record { value = q.0; rest = f.rest; same = q.1 }

    pub slice_end : (j : Option ℤ) (new : List ℕ) → mid ≡ end_bytes j ++ new → (x : optimized.OptimizedExpr) (rest : List ℕ) → 4 ∷ old ≡ optimized_expression_bytes x ++ rest → new ≡ rest
    slice_end j new g x rest f = let q = end_of x rest f in sym (end_tail j new) ∙ (ap after_end (sym g ∙ q.1) ∙ end_tail q.0 rest)

-- an end of a slice that is cut
pub end_cut : (old mid : List ℕ) → old ≡ 1 ∷ mid → length mid < 4 → BeginsWithEnd old → ⊥
end_cut old mid e l f = go f.value f.same where
  go : (j : Option ℤ) → old ≡ end_bytes j ++ f.rest → ⊥
  go None g = cc
  go (Some z) g =
      let whole = ap length (tail_is (sym e ∙ g)) in
      let parts = length-append (index_bytes z) f.rest in
      let four = index_long z in
      omega (arith, l, whole, parts, four)

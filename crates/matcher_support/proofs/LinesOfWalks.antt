-- The lines of a walk over trees are the lines of the trees.
use Rattle.std.proofs.Common.{◌≡◌, ℕ, suc, ◌+◌, List, [], ◌∷◌, ◌++◌, append_assoc, append-nil, refl, sym, ap, ◌∙◌, arith}
use Rattle.base_language.specs.Language.State.{Trees, None', Tree}
use Rattle.base_language.specs.Language.Text.{Text}
use Rattle.matcher_code.specs.Reached.{count_of}
use Rattle.matcher_engine.specs.Walks.{Leaves, Visit, visited, visits}
use Rattle.matcher_support.specs.Lines.{flat, line, lines_of, piece}

module _ (rule : Text → ℕ) where
  flat_trees : (k depth : ℕ) (us : Trees) (rest : List Visit) → flat (visits rule k depth us ++ rest) ≡ lines_of depth us ++ flat rest
  flat_trees k depth None' rest = refl
  flat_trees k depth (Tree r i j inner others) rest =
      let v = visited rule k depth r i j inner in
      let inside = visits rule (suc k) (suc depth) inner in
      let behind = visits rule (suc k + count_of inner) depth others in
      let front = line i j depth r in
      let z : suc depth ≡ depth + 1 = omega arith in
      ap (λ vs. front ++ flat vs) (append_assoc inside (Leaves v ∷ behind) rest)
      ∙ (ap (λ t. front ++ t) (flat_trees (suc k) (suc depth) inner (Leaves v ∷ (behind ++ rest))
      ∙ (ap (λ d. lines_of d inner ++ flat (behind ++ rest)) z ∙ ap (λ t. lines_of (depth + 1) inner ++ t) (flat_trees (suc k + count_of inner) depth others rest)))
      ∙ (sym (append_assoc front (lines_of (depth + 1) inner) (lines_of depth others ++ flat rest))
      ∙ sym (append_assoc (front ++ lines_of (depth + 1) inner) (lines_of depth others) (flat rest))))

  -- the whole walk
  pub all_lines : (us : Trees) → flat (visits rule 0 0 us) ≡ lines_of 0 us
  all_lines us = ap flat (sym (append-nil (visits rule 0 0 us))) ∙ (flat_trees 0 0 us [] ∙ append-nil (lines_of 0 us))

-- the lines so far and what is left are the whole: one visit more
pub one_more : (whole lines new : List ℕ) (v : Visit) (old rest : List Visit) → old ≡ v ∷ rest → lines ++ flat old ≡ whole → new ≡ lines ++ piece v → new ++ flat rest ≡ whole
one_more whole lines new v old rest e so_far gained =
    ap (λ t. t ++ flat rest) gained ∙ (append_assoc lines (piece v) (flat rest) ∙ (ap (λ vs. lines ++ flat vs) (sym e) ∙ so_far))

pub all_written : (whole lines : List ℕ) (old : List Visit) → old ≡ [] → lines ++ flat old ≡ whole → lines ≡ whole
all_written whole lines old e so_far = sym (append-nil lines) ∙ (ap (λ vs. lines ++ flat vs) (sym e) ∙ so_far)

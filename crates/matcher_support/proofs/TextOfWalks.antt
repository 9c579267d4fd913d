-- What a walk over trees adds to the lines, visit by visit, is what the trees are shown as.
use Rattle.std.proofs.Common.{◌≡◌, ℕ, suc, ◌+◌, ◌-◌, ◌<◌, ◌≤◌, List, [], ◌∷◌, ◌++◌, Option, Some, None, append_assoc, append-nil, codes, refl, sym, ap, ap₂, ◌∙◌, arith, eq-eqb, encode_utf8_all, if◌then◌else◌}
use Rattle.std.proofs.lemmas.Bool.{ne_eqb}
use Rattle.base_language.specs.Language.Text.{Text}
use Rattle.base_language.specs.Language.State.{Trees, None', Tree}
use Rattle.matcher_code.specs.Reached.{count_of}
use Rattle.matcher_engine.specs.Walks.{Enters, Leaves, Visit, Visited, visited, visits}
use Rattle.matcher_support.specs.Flat.{flat, level_after, opening, piece}
use Rattle.matcher_support.specs.Shown.{behind, line_start, shown}

module _ (rule : Text → ℕ) where
  -- the last of trees from a number on, or one that was left before them
  abbrev last_left : Visited → (k depth : ℕ) → Trees → Visited
  last_left q k depth None' = q
  last_left q k depth (Tree r i j inner others) = last_left (visited rule k depth r i j inner) (suc k + count_of inner) depth others

  last_above : (q : Visited) (k depth : ℕ) (us : Trees) → q.number ≤ k → q.number ≤ (last_left q k depth us).number
  last_above q k depth None' h = omega arith
  last_above q k depth (Tree r i j inner others) h =
      let more : k ≤ (last_left (visited rule k depth r i j inner) (suc k + count_of inner) depth others).number =
      last_above (visited rule k depth r i j inner) (suc k + count_of inner) depth others (omega arith) in
      omega arith

  -- a tree that another holds alone, and the first of several
  opens_only : (level : ℕ) (p t : Visited) → p.node.after ≡ t.node.after → opening level (Some (Enters p)) t ≡ codes " > "
  opens_only level p t e = ap (λ b. if b then codes " > " else codes "\n" ++ line_start (level + 1)) (eq-eqb p.node.after t.node.after e)

  level_only : (level : ℕ) (p t : Visited) → p.node.after ≡ t.node.after → level_after level (Some (Enters p)) (Enters t) ≡ level
  level_only level p t e = ap (λ b. if b then level else level + 1) (eq-eqb p.node.after t.node.after e)

  opens_first : (level : ℕ) (p t : Visited) → t.node.after < p.node.after → opening level (Some (Enters p)) t ≡ codes "\n" ++ line_start (level + 1)
  opens_first level p t h = ap (λ b. if b then codes " > " else codes "\n" ++ line_start (level + 1)) (ne_eqb p.node.after t.node.after (λ e. omega (arith, h, e)))

  level_first : (level : ℕ) (p t : Visited) → t.node.after < p.node.after → level_after level (Some (Enters p)) (Enters t) ≡ level + 1
  level_first level p t h = ap (λ b. if b then level else level + 1) (ne_eqb p.node.after t.node.after (λ e. omega (arith, h, e)))

  -- the end of a tree that held one, and of one that held several
  ends_only : (level : ℕ) (q t : Visited) → q.number ≡ t.number + 1 → level_after level (Some (Leaves q)) (Leaves t) ≡ level
  ends_only level q t e = ap (λ b. if b then level else level - 1) (eq-eqb q.number (t.number + 1) e)

  ends_several : (level : ℕ) (q t : Visited) → t.number + 1 < q.number → level_after (level + 1) (Some (Leaves q)) (Leaves t) ≡ level
  ends_several level q t h =
      let z : level + 1 - 1 ≡ level = omega arith in
      ap (λ b. if b then level + 1 else level + 1 - 1) (ne_eqb q.number (t.number + 1) (λ e. omega (arith, h, e))) ∙ z

  module _ (text : List ℕ) where
    -- into a tree, over those that it holds, and out of it; and over the trees that follow one
    abbrev Inside : (k depth : ℕ) → Text → (i j : ℕ) → Trees → Type 0
    Inside k depth r i j inner = (level : ℕ) (rest : List Visit)
        → flat text level (Some (Enters (visited rule k depth r i j inner))) (visits rule (suc k) (suc depth) inner ++ Leaves (visited rule k depth r i j inner) ∷ rest)
        ≡ behind text level i j inner ++ flat text level (Some (Leaves (visited rule k depth r i j inner))) rest

    abbrev Across : Visited → (k depth : ℕ) → Trees → Type 0
    Across q k depth us = (level : ℕ) (rest : List Visit)
        → flat text level (Some (Leaves q)) (visits rule k depth us ++ rest) ≡ shown text level us ++ flat text level (Some (Leaves (last_left q k depth us))) rest

    -- what a tree holds that holds some: the first of them, and the others
    holds_some : (k depth i j : ℕ) (s r : Text) (a b : ℕ) (inner others : Trees) → Inside (suc k) (suc depth) r a b inner
        → Across (visited rule (suc k) (suc depth) r a b inner) (suc (suc k) + count_of inner) (suc depth) others
        → Inside k depth s i j (Tree r a b inner others)
    holds_some k depth i j s r a b inner None' first after level rest =
        let p = visited rule k depth s i j (Tree r a b inner None') in
        let t = visited rule (suc k) (suc depth) r a b inner in
        let name = encode_utf8_all r in
        let front = visits rule (suc (suc k)) (suc (suc depth)) inner in
        let tail = (front ++ Leaves t ∷ []) ++ Leaves p ∷ rest in
        let same : suc k + suc (count_of inner + 0) ≡ suc (suc k) + count_of inner = omega arith in
        let ends : flat text level (Some (Leaves t)) (Leaves p ∷ rest) ≡ flat text level (Some (Leaves p)) rest = ap (λ v. flat text v (Some (Leaves p)) rest) (ends_only level t p (omega arith)) in
        ap₂ (λ o v. (o ++ name) ++ flat text v (Some (Enters t)) tail) (opens_only level p t same) (level_only level p t same)
        ∙ ap (λ vs. (codes " > " ++ name) ++ flat text level (Some (Enters t)) vs) (append_assoc front (Leaves t ∷ []) (Leaves p ∷ rest))
        ∙ ap (λ x. (codes " > " ++ name) ++ x) (first level (Leaves p ∷ rest) ∙ ap (λ x. behind text level a b inner ++ x) ends)
        ∙ sym (append_assoc (codes " > " ++ name) (behind text level a b inner) (flat text level (Some (Leaves p)) rest))
    holds_some k depth i j s r a b inner (Tree s' c d within others) first after level rest =
        let more = Tree s' c d within others in
        let p = visited rule k depth s i j (Tree r a b inner more) in
        let t = visited rule (suc k) (suc depth) r a b inner in
        let next = suc (suc k) + count_of inner in
        let name = encode_utf8_all r in
        let front = visits rule (suc (suc k)) (suc (suc depth)) inner in
        let tail = (front ++ Leaves t ∷ visits rule next (suc depth) more) ++ Leaves p ∷ rest in
        let start = codes "\n" ++ line_start (level + 1) in
        let several : next < suc k + suc (count_of inner + suc (count_of within + count_of others)) = omega arith in
        let q = last_left t next (suc depth) more in
        let held = behind text (level + 1) a b inner in
        let above : next ≤ q.number = last_above (visited rule next (suc depth) s' c d within) (suc next + count_of within) (suc depth) others (omega arith) in
        let ends : flat text (level + 1) (Some (Leaves q)) (Leaves p ∷ rest) ≡ flat text level (Some (Leaves p)) rest =
        ap (λ v. flat text v (Some (Leaves p)) rest) (ends_several level q p (omega (arith, above))) in
        ap₂ (λ o v. (o ++ name) ++ flat text v (Some (Enters t)) tail) (opens_first level p t several) (level_first level p t several)
        ∙ ap (λ vs. (start ++ name) ++ flat text (level + 1) (Some (Enters t)) vs) (append_assoc front (Leaves t ∷ visits rule next (suc depth) more) (Leaves p ∷ rest))
        ∙ ap (λ x. (start ++ name) ++ x) (first (level + 1) (visits rule next (suc depth) more ++ Leaves p ∷ rest) ∙ ap (λ x. held ++ x) (after (level + 1) (Leaves p ∷ rest) ∙ ap (λ x. shown text (level + 1) more ++ x) ends))
        ∙ sym (append_assoc (start ++ name) held (shown text (level + 1) more ++ flat text level (Some (Leaves p)) rest))
        ∙ sym (append_assoc ((start ++ name) ++ held) (shown text (level + 1) more) (flat text level (Some (Leaves p)) rest))

    mutual
      inside : (k depth : ℕ) (r : Text) (i j : ℕ) (inner : Trees) → Inside k depth r i j inner
      inside k depth r i j None' level rest = refl
      inside k depth r i j (Tree s a b inner others) level rest =
          holds_some k depth i j r s a b inner others (inside (suc k) (suc depth) s a b inner)
          (across (visited rule (suc k) (suc depth) s a b inner) (suc (suc k) + count_of inner) (suc depth) others) level rest

      across : (q : Visited) (k depth : ℕ) (us : Trees) → Across q k depth us
      across q k depth None' level rest = refl
      across q k depth (Tree r i j inner others) level rest =
          let t = visited rule k depth r i j inner in
          let next = suc k + count_of inner in
          let name = encode_utf8_all r in
          let front = visits rule (suc k) (suc depth) inner in
          let behind_it = visits rule next depth others in
          let start = line_start level in
          let held = behind text level i j inner in
          let end_ = flat text level (Some (Leaves (last_left t next depth others))) rest in
          ap (λ vs. (start ++ name) ++ flat text level (Some (Enters t)) vs) (append_assoc front (Leaves t ∷ behind_it) rest)
          ∙ ap (λ x. (start ++ name) ++ x) (inside k depth r i j inner level (behind_it ++ rest))
          ∙ ap (λ x. (start ++ name) ++ (held ++ x)) (across t next depth others level rest)
          ∙ sym (append_assoc (start ++ name) held (shown text level others ++ end_))
          ∙ sym (append_assoc ((start ++ name) ++ held) (shown text level others) end_)

    -- the whole walk
    pub all_lines : (us : Trees) (left : List Visit) → left ≡ visits rule 0 0 us → flat text 0 None left ≡ shown text 0 us
    all_lines None' left e = rw e refl
    all_lines (Tree r i j inner others) left e =
        let us = Tree r i j inner others in
        let q = visited rule 0 0 r i j None' in
        let same : flat text 0 None (visits rule 0 0 us) ≡ flat text 0 (Some (Leaves q)) (visits rule 0 0 us) = refl in
        ap (λ vs. flat text 0 None vs) e ∙ same ∙ ap (λ vs. flat text 0 (Some (Leaves q)) vs) (sym (append-nil (visits rule 0 0 us))) ∙ across q 0 0 us 0 [] ∙ append-nil (shown text 0 us)

-- the lines so far and what is left are the whole: one visit more, and all of them
pub one_more : (text whole lines new : List ℕ) (level next : ℕ) (before : Option Visit) (v : Visit) (old rest : List Visit) → old ≡ v ∷ rest
    → lines ++ flat text level before old ≡ whole → new ≡ lines ++ piece text level before v → next ≡ level_after level before v
    → new ++ flat text next (Some v) rest ≡ whole
one_more text whole lines new level next before v old rest e so_far gained stands =
    ap₂ (λ t n. t ++ flat text n (Some v) rest) gained stands
    ∙ (append_assoc lines (piece text level before v) (flat text (level_after level before v) (Some v) rest)
    ∙ (ap (λ vs. lines ++ flat text level before vs) (sym e) ∙ so_far))

pub all_written : (text whole lines : List ℕ) (level : ℕ) (before : Option Visit) (old : List Visit) → old ≡ [] → lines ++ flat text level before old ≡ whole → lines ≡ whole
all_written text whole lines level before old e so_far = sym (append-nil lines) ∙ (ap (λ vs. lines ++ flat text level before vs) (sym e) ∙ so_far)

-- A walk over trees with wrappers among them, without the wrappers.
use Rattle.std.proofs.Common.{◌≡◌, refl, sym, ◌∙◌, ap, ℕ, suc, ◌+◌, List, [], ◌∷◌, ◌++◌, Option, Some, None, append_assoc}
use Rattle.std.proofs.lemmas.List.{append-nil}
use Rattle.base_language.specs.Language.Text.{Text}
use Rattle.base_language.specs.Language.State.{Trees, None', Tree}
use Rattle.base_language.specs.Pieces.TokenTrees.{NoTokens, Token, followed_by}
use Rattle.matcher_code.specs.Reached.{count_of}
use Rattle.matcher_engine.specs.Walks.{Leaves, Visit, Visited, visited, visits}
use Rattle.matcher_support.specs.Names.{tag_in}
use Rattle.matcher_support.specs.Tags.{TaggedTrees, with_tag}
use Rattle.matcher_support.specs.Spliced.{spliced, with_next}
use Rattle.matcher_support.specs.TagEntries.{TagEntry, Opens, Closes, Tagging, entries_onto, with_last_tag, with_start, with_visit, with_visits}

-- the last entry, if there is one, is no end
abbrev pub IsOpen : List TagEntry → Type 0
IsOpen [] = Unit {0}
IsOpen (Opens n i ∷ es) = Unit {0}
IsOpen (Closes j t ∷ es) = ⊥

onto_followed : (us vs : TaggedTrees) (es : List TagEntry) → entries_onto (followed_by us vs) es ≡ entries_onto vs (entries_onto us es)
onto_followed NoTokens vs es = refl
onto_followed (Token r i j inner others) vs es = onto_followed others vs _

mutual
  with_last : (t : Text) (us : TaggedTrees) (es : List TagEntry) → IsOpen es → with_last_tag t (entries_onto us es) ≡ entries_onto (with_tag t us) es
  with_last t NoTokens [] h = refl
  with_last t NoTokens (Opens n i ∷ es) h = refl
  with_last t NoTokens (Closes j u ∷ es) h = absurd h
  with_last t (Token r i j inner others) es h = with_last_of t r i j inner others es

  with_last_of : (t : Text) (r : Text × Option Text) (i j : ℕ) (inner others : TaggedTrees) (es : List TagEntry)
      → with_last_tag t (entries_onto (Token r i j inner others) es) ≡ entries_onto (with_tag t (Token r i j inner others)) es
  with_last_of t r i j inner NoTokens es = refl
  with_last_of t r i j inner (Token q k l more rest) es =
      with_last_of t q k l more rest (Closes j r.1 ∷ entries_onto inner (Opens r.0 i ∷ es))

-- what the walk over inner trees makes, for any trees and entries before them
abbrev Inner : (Text → ℕ) → Trees → (n depth : ℕ) → Type 0
Inner rule inner n depth = (rest : List Visit) (ts : TaggedTrees) (es : List TagEntry) (open_trees : List (Option Text)) → IsOpen es
    → with_visits (visits rule n depth inner ++ rest) (record { entries = entries_onto ts es; open_trees = open_trees })
    ≡ with_visits rest (record { entries = entries_onto (spliced inner ts) es; open_trees = open_trees })

module _ (rule : Text → ℕ) where
  one_tree : (q : Option Text) (v : Visited) (m depth : ℕ) (inner : Trees) (after : List Visit) (ts : TaggedTrees) (es : List TagEntry)
      (o : List (Option Text)) → IsOpen es → Inner rule inner m depth
      → with_visits (visits rule m depth inner ++ (Leaves v ∷ after)) (with_start q v.rule v.node.start (record { entries = entries_onto ts es; open_trees = o }))
      ≡ with_visits after (record { entries = entries_onto (with_next q v.rule v.node.start v.node.end (spliced inner) ts) es; open_trees = o })
  one_tree (Some t) v m depth inner after ts es o h f =
      f (Leaves v ∷ after) ts es (Some t ∷ o) h
      ∙ ap (λ z. with_visits after (record { entries = z; open_trees = o })) (with_last t (spliced inner ts) es h)
  one_tree None v m depth inner after ts es o h f =
      f (Leaves v ∷ after) NoTokens (Opens v.rule v.node.start ∷ entries_onto ts es) (None ∷ o) tt
      ∙ ap (λ z. with_visits after (record { entries = z; open_trees = o }))
      (sym (onto_followed ts (Token (v.rule, None) v.node.start v.node.end (spliced inner NoTokens) NoTokens) es))

  tags_after : (us : Trees) (n depth : ℕ) → Inner rule us n depth
  tags_after None' n depth = λ rest ts es o h. refl
  tags_after (Tree r i j inner others) n depth = λ rest ts es o h.
      let v = visited rule n depth r i j inner in
      let inside = visits rule (suc n) (suc depth) inner in
      let behind = visits rule (suc n + count_of inner) depth others in
      ap (λ z. with_visits z (with_start (tag_in r) r i (record { entries = entries_onto ts es; open_trees = o }))) (append_assoc inside (Leaves v ∷ behind) rest)
      ∙ (one_tree (tag_in r) v (suc n) (suc depth) inner (behind ++ rest) ts es o h (tags_after inner (suc n) (suc depth))
      ∙ tags_after others (suc n + count_of inner) depth rest (with_next (tag_in r) r i j (spliced inner) ts) es o h)

  pub tags_of : (us : Trees) → with_visits (visits rule 0 0 us) (record { entries = []; open_trees = [] })
      ≡ record { entries = entries_onto (spliced us NoTokens) []; open_trees = [] }
  tags_of us =
      ap (λ z. with_visits z (record { entries = []; open_trees = [] })) (sym (append-nil (visits rule 0 0 us)))
      ∙ tags_after us 0 0 [] NoTokens [] [] tt

-- one visit more
pub one_more : (v : Visit) (old rest : List Visit) (k new whole : Tagging) → old ≡ v ∷ rest → new ≡ with_visit v k → with_visits old k ≡ whole → with_visits rest new ≡ whole
one_more v old rest k new whole e gained so_far = ap (with_visits rest) gained ∙ (ap (λ vs. with_visits vs k) (sym e) ∙ so_far)

-- The JSON of a walk over trees is the JSON of the trees.
use Rattle.std.proofs.Common.{◌≡◌, ℕ, suc, ◌+◌, ◌==◌, List, [], ◌∷◌, ◌++◌, Bool, true, false, append_assoc, append-nil, codes, drop, refl, sym, ap, ap₂, ◌∙◌, arith, eq-eqb, encode_utf8_all, if◌then◌else◌}
use Rattle.std.specs.Prelude.{decimal}
use Rattle.std.proofs.lemmas.Bool.{ne_eqb}
use Rattle.base_language.specs.Language.Text.{Text}
use Rattle.base_language.specs.Language.State.{Trees, None', Tree}
use Rattle.matcher_code.specs.Reached.{count_of}
use Rattle.matcher_engine.specs.Walks.{Enters, Leaves, Visit, visited, visits}
use Rattle.matcher_support.specs.Json.{closing, flat, head, is_left, own_data, piece}
use Rattle.matcher_support.specs.Shown.{part}
use Rattle.matcher_support.specs.Values.{answer_data, inner_data, leaf_data, tree_data, trees_data}
use Rattle.serde_json.proofs.OnLiterals.{serde_json_on_literals}
use Rattle.serde_json.specs.Data.{Items, no_items, item}
use Rattle.serde_json.specs.Written.{comma_if, compact_text, items_text}

-- items without their closing bracket
abbrev body : Bool → Items → List ℕ
body later no_items = []
body later (item d ds) = comma_if later ++ (compact_text d ++ body true ds)

items_body : (later : Bool) (ds : Items) → items_text later ds ≡ body later ds ++ 93 ∷ []
items_body later no_items = refl
items_body later (item d ds) =
    ap (λ t. comma_if later ++ (compact_text d ++ t)) (items_body true ds)
    ∙ (ap (λ t. comma_if later ++ t) (sym (append_assoc (compact_text d) (body true ds) (93 ∷ [])))
    ∙ sym (append_assoc (comma_if later) (compact_text d ++ body true ds) (93 ∷ [])))

-- a tree that holds others, by its parts
inner_text : (rule : List ℕ) (i j : ℕ) (ds : Items) → compact_text (inner_data rule i j ds)
    ≡ codes "{\"children\":[" ++ (body false ds ++ (codes "]," ++ drop 1 (compact_text (own_data rule i j))))
unfolding serde_json_on_literals
inner_text rule i j ds =
    ap (λ t. codes "{\"children\":[" ++ (t ++ (codes "," ++ drop 1 (compact_text (own_data rule i j))))) (items_body false ds)
    ∙ ap (λ t. codes "{\"children\":[" ++ t) (append_assoc (body false ds) (93 ∷ []) (codes "," ++ drop 1 (compact_text (own_data rule i j))))

whole_text : (text : List ℕ) (end_ : ℕ) (us : Trees)
    → head end_ ++ (body false (trees_data text us) ++ codes "]}") ≡ compact_text (answer_data text end_ us)
unfolding serde_json_on_literals
whole_text text end_ us =
    let ds = trees_data text us in
    append_assoc (codes "{\"end\":") (decimal end_ ++ codes ",\"trees\":[") (body false ds ++ codes "]}")
    ∙ (ap (λ t. codes "{\"end\":" ++ t) (append_assoc (decimal end_) (codes ",\"trees\":[") (body false ds ++ codes "]}"))
    ∙ ap (λ t. codes "{\"end\":" ++ (decimal end_ ++ (codes ",\"trees\":[" ++ t)))
    (sym (append_assoc (body false ds) (93 ∷ []) (125 ∷ [])) ∙ ap (λ t. t ++ 125 ∷ []) (sym (items_body false ds))))

abbrev later_after : Bool → Trees → Bool
later_after later None' = later
later_after later (Tree r i j inner others) = true

later_stays : (vs : Trees) → later_after true vs ≡ true
later_stays None' = refl
later_stays (Tree s a b x y) = refl

module _ (text : List ℕ) (rule : Text → ℕ) where
  -- a leaf, and a tree that holds others
  leaf_tree : (k depth : ℕ) (later : Bool) (r : Text) (i j : ℕ) (rest : List Visit)
      → flat text later (visits rule k depth (Tree r i j None' None') ++ rest)
      ≡ comma_if later ++ (compact_text (tree_data text r i j no_items) ++ flat text true rest)
  leaf_tree k depth later r i j rest =
      let a : (suc k + 0 == k + 1) ≡ true = eq-eqb (suc k + 0) (k + 1) (omega arith) in
      ap (λ t. (comma_if later ++ (if t then [] else codes "{\"children\":[")) ++ (closing text t (encode_utf8_all r) i j ++ flat text true rest)) a
      ∙ append_assoc (comma_if later) [] (compact_text (leaf_data (encode_utf8_all r) i j (part text i j)) ++ flat text true rest)

  inner_tree : (k depth : ℕ) (later : Bool) (r : Text) (i j : ℕ) (inner : Trees) (rest : List Visit) (d : Items) → (suc k + count_of inner == k + 1) ≡ false
      → flat text false (visits rule (suc k) (suc depth) inner ++ Leaves (visited rule k depth r i j inner) ∷ rest)
      ≡ body false d ++ flat text true (Leaves (visited rule k depth r i j inner) ∷ rest)
      → flat text later (visits rule k depth (Tree r i j inner None') ++ rest)
      ≡ comma_if later ++ (compact_text (inner_data (encode_utf8_all r) i j d) ++ flat text true rest)
  inner_tree k depth later r i j inner rest d a ih =
      let v = visited rule k depth r i j inner in
      let inside = visits rule (suc k) (suc depth) inner in
      let own = drop 1 (compact_text (own_data (encode_utf8_all r) i j)) in
      let start = codes "{\"children\":[" in
      let end_ = codes "]," ++ own in
      let after = flat text true rest in
      let w : flat text true (Leaves v ∷ rest) ≡ end_ ++ after = ap (λ t. closing text t (encode_utf8_all r) i j ++ after) a in
      ap₂ (λ t vs. (comma_if later ++ (if t then [] else start)) ++ flat text false vs) a (append_assoc inside (Leaves v ∷ []) rest)
      ∙ (ap (λ t. (comma_if later ++ start) ++ t) (ih ∙ ap (λ t. body false d ++ t) w)
      ∙ (append_assoc (comma_if later) start (body false d ++ (end_ ++ after))
      ∙ ap (λ t. comma_if later ++ t)
      (ap (λ t. start ++ t) (sym (append_assoc (body false d) end_ after))
      ∙ (sym (append_assoc start (body false d ++ end_) after)
      ∙ ap (λ t. t ++ after) (sym (inner_text (encode_utf8_all r) i j d))))))

  one_tree : (k depth : ℕ) (later : Bool) (r : Text) (i j : ℕ) (us : Trees) (rest : List Visit)
      → ((tail : List Visit) → flat text false (visits rule (suc k) (suc depth) us ++ tail) ≡ body false (trees_data text us) ++ flat text (later_after false us) tail)
      → flat text later (visits rule k depth (Tree r i j us None') ++ rest)
      ≡ comma_if later ++ (compact_text (tree_data text r i j (trees_data text us)) ++ flat text true rest)
  one_tree k depth later r i j None' rest ih = leaf_tree k depth later r i j rest
  one_tree k depth later r i j (Tree s a b x y) rest ih =
      let us = Tree s a b x y in
      let several : (suc k + count_of us == k + 1) ≡ false = ne_eqb (suc k + count_of us) (k + 1) (λ e. omega (arith, e)) in
      inner_tree k depth later r i j us rest (trees_data text us) several (ih (Leaves (visited rule k depth r i j us) ∷ rest))

  -- trees
  flat_trees : (k depth : ℕ) (later : Bool) (us : Trees) (rest : List Visit)
      → flat text later (visits rule k depth us ++ rest) ≡ body later (trees_data text us) ++ flat text (later_after later us) rest
  flat_trees k depth later None' rest = refl
  flat_trees k depth later (Tree r i j inner others) rest =
      let next = suc k + count_of inner in
      let v = visited rule k depth r i j inner in
      let inside = visits rule (suc k) (suc depth) inner in
      let behind = visits rule next depth others in
      let d = compact_text (tree_data text r i j (trees_data text inner)) in
      let e : flat text later (visits rule k depth (Tree r i j inner others) ++ rest) ≡ flat text later (visits rule k depth (Tree r i j inner None') ++ (behind ++ rest)) =
      ap (λ vs. piece text later (Enters v) ++ flat text false vs)
      (append_assoc inside (Leaves v ∷ behind) rest ∙ sym (append_assoc inside (Leaves v ∷ []) (behind ++ rest))) in
      e
      ∙ (one_tree k depth later r i j inner (behind ++ rest) (λ tail. flat_trees (suc k) (suc depth) false inner tail)
      ∙ (ap (λ t. comma_if later ++ (d ++ t)) (flat_trees next depth true others rest ∙ ap (λ b. body true (trees_data text others) ++ flat text b rest) (later_stays others))
      ∙ (ap (λ t. comma_if later ++ t) (sym (append_assoc d (body true (trees_data text others)) (flat text true rest)))
      ∙ sym (append_assoc (comma_if later) (d ++ body true (trees_data text others)) (flat text true rest)))))

  -- the whole walk
  all_visits : (us : Trees) → flat text false (visits rule 0 0 us) ≡ body false (trees_data text us)
  all_visits us = ap (flat text false) (sym (append-nil (visits rule 0 0 us))) ∙ (flat_trees 0 0 false us [] ∙ append-nil (body false (trees_data text us)))

  pub all_json : (json new : List ℕ) (end_ : ℕ) (us : Trees) (left : List Visit) → left ≡ visits rule 0 0 us
      → json ≡ head end_ ++ flat text false left → new ≡ json ++ codes "]}"
      → new ≡ compact_text (answer_data text end_ us)
  all_json json new end_ us left e h k =
      k ∙ (ap (λ t. t ++ codes "]}") (h ∙ ap (λ t. head end_ ++ t) (ap (flat text false) e ∙ all_visits us))
      ∙ (append_assoc (head end_) (body false (trees_data text us)) (codes "]}") ∙ whole_text text end_ us))

-- the text so far and what is left are the whole: one visit more, and all of them
pub one_more : (text whole json new : List ℕ) (later next : Bool) (v : Visit) (old rest : List Visit) → old ≡ v ∷ rest
    → json ++ flat text later old ≡ whole → new ≡ json ++ piece text later v → next ≡ is_left v → new ++ flat text next rest ≡ whole
one_more text whole json new later next v old rest e so_far gained is =
    ap₂ (λ t b. t ++ flat text b rest) gained is
    ∙ (append_assoc json (piece text later v) (flat text (is_left v) rest)
    ∙ (ap (λ vs. json ++ flat text later vs) (sym e) ∙ so_far))

pub all_written : (text whole json : List ℕ) (later : Bool) (old : List Visit) → old ≡ [] → json ++ flat text later old ≡ whole → json ≡ whole
all_written text whole json later old e so_far = sym (append-nil json) ∙ (ap (λ vs. json ++ flat text later vs) (sym e) ∙ so_far)

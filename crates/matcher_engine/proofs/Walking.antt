-- Walks over trees, by the trees in preorder.
use Rattle.std.proofs.Common.{◌≡◌, refl, sym, ◌∙◌, ap, ap₂, ℕ, suc, ◌+◌, ◌-◌, ◌<◌, ◌≤◌, List, [], ◌∷◌, ◌++◌, true, false, drop, get_or, length, map, nat_le, reverse, subst, take, arith, if◌then◌else◌, append_assoc, append-nil}
use Rattle.std.specs.Prelude.{⊤}
use Rattle.base_language.specs.Language.Expression.{Grammar}
use Rattle.base_language.specs.Language.Text.{Text}
use Rattle.base_language.specs.Language.State.{Trees, None', Tree}
use Rattle.matcher_code.specs.declared.state.TreeNode.{TreeNode}
use Rattle.matcher_code.specs.Reached.{count_of, nodes_of}
use Rattle.base_language.specs.Language.State.{Classes, State}
use Rattle.matcher_compiler.specs.Names.{number_in}
use Rattle.matcher_engine.proofs.Known.{known_text}
use Rattle.matcher_engine.proofs.RuleNumbers.{number_within}
use Rattle.matcher_engine.proofs.TreeNames.{HaveTreeNumbers, trees_have}
use Rattle.matcher_engine.specs.ParseTrees.{HasParseTree}
use Rattle.matcher_engine.specs.declared.matcher.ParseTree.{ParseTree}
use Rattle.matcher_engine.specs.Walks.{visited_of}
use Rattle.matcher_engine.specs.declared.walk.VisitedTree.{VisitedTree}
use Rattle.std.proofs.Math.Seq.{drop-cons, take-length, take-suc}
use Rattle.std.proofs.lemmas.List.{length-map, length-reverse, reverse-append}
use Rattle.matcher_engine.specs.Walks.{Enters, Leaves, Visit, Visited, closed, entered, left_open, name_in, remaining, visited, visits}

-- the last opened tree goes on to a number
abbrev pub Goes : ℕ → List Visited → Type 0
Goes n [] = ⊤
Goes n (t ∷ ts) = n ≤ t.node.after

goes_less : (m n : ℕ) (ts : List Visited) → m ≤ n → Goes n ts → Goes m ts
goes_less m n [] l h = tt
goes_less m n (t ∷ ts) l h = omega (arith, l, h)

above : (a k : ℕ) → k < a → nat_le a k ≡ false
above a k h = grind arith

-- no open tree ends before the next one
none_closed : (k : ℕ) (ts : List Visited) → Goes (suc k) ts → (closed k ts ≡ []) × (left_open k ts ≡ ts)
none_closed k [] h = (refl, refl)
none_closed k (t ∷ ts) h =
    let e = above t.node.after k (omega (arith, h)) in
    (ap (λ b. if b then Leaves t ∷ closed k ts else []) e, ap (λ b. if b then left_open k ts else t ∷ ts) e)

module _ (names : List Text) where
  -- a tree and those behind it, if some ends come first
  abbrev after_ends : TreeNode → List TreeNode → ℕ → List Visit → List Visited → List Visit
  after_ends t ts k ends left =
      ends ++ Enters (entered names t k (length left)) ∷ remaining names ts (suc k) (entered names t k (length left) ∷ left)

  -- out of the last opened tree
  pub close_one : (ts : List TreeNode) (k : ℕ) (t : Visited) (os : List Visited) → nat_le t.node.after k ≡ true
      → remaining names ts k (t ∷ os) ≡ Leaves t ∷ remaining names ts k os
  close_one [] k t os e = ap (λ b. if b then Leaves t ∷ closed k os else []) e
  close_one (u ∷ ts) k t os e =
      ap₂ (after_ends u ts k) (ap (λ b. if b then Leaves t ∷ closed k os else []) e) (ap (λ b. if b then left_open k os else t ∷ os) e)

  -- into the next tree
  pub open_one : (t : TreeNode) (ts : List TreeNode) (k : ℕ) (os : List Visited) → Goes (suc k) os
      → remaining names (t ∷ ts) k os ≡ Enters (entered names t k (length os)) ∷ remaining names ts (suc k) (entered names t k (length os) ∷ os)
  open_one t ts k os h =
      let x = none_closed k os h in
      ap₂ (after_ends t ts k) x.0 x.1

  -- nothing is left
  pub at_end : (k : ℕ) (os : List Visited) → Goes (suc k) os → remaining names [] k os ≡ []
  at_end k os h = (none_closed k os h).0

  module _ (rule : Text → ℕ) where
    -- each rule's number is that of its name
    abbrev pub AreNamed : Trees → Type 0
    AreNamed None' = ⊤
    AreNamed (Tree r i j inner others) = (name_in names (rule r) ≡ r) × AreNamed inner × AreNamed others

    walk_over : (us : Trees) (k : ℕ) (os : List Visited) (ts : List TreeNode) → AreNamed us → Goes (k + count_of us) os
        → remaining names (nodes_of rule k us ++ ts) k os ≡ visits rule k (length os) us ++ remaining names ts (k + count_of us) os
    walk_over None' k os ts h g = ap (λ n. remaining names ts n os) (omega arith)
    walk_over (Tree r i j inner others) k os ts h g =
        let ci = count_of inner in
        let co = count_of others in
        let m = suc k + ci in
        let A = nodes_of rule (suc k) inner in
        let B = nodes_of rule m others in
        let t : TreeNode = record { rule = rule r; start = i; end = j; after = m } in
        let v = entered names t k (length os) in
        let w = visited rule k (length os) r i j inner in
        let last = remaining names ts (k + suc (ci + co)) os in
        let inside = visits rule (suc k) (suc (length os)) inner in
        let behind = visits rule m (length os) others in
        let g1 : Goes (suc k) os = goes_less (suc k) (k + suc (ci + co)) os (omega arith) g in
        let g2 : Goes (m + co) os = goes_less (m + co) (k + suc (ci + co)) os (omega arith) g in
        let e0 : v ≡ w = ap (λ n. record { rule = n; node = t; number = k; depth = length os }) h.0 in
        let s1 = open_one t ((A ++ B) ++ ts) k os g1 in
        let s2 : remaining names ((A ++ B) ++ ts) (suc k) (v ∷ os) ≡ remaining names (A ++ (B ++ ts)) (suc k) (v ∷ os) =
        ap (λ z. remaining names z (suc k) (v ∷ os)) (append_assoc A B ts) in
        let s3 = walk_over inner (suc k) (v ∷ os) (B ++ ts) h.1 (omega arith) in
        let s4 = close_one (B ++ ts) m v os (let l : m ≤ m = omega arith in grind arith) in
        let s5 = walk_over others m os ts h.2 g2 in
        let e1 : remaining names ts (m + co) os ≡ last = ap (λ n. remaining names ts n os) (omega arith) in
        s1 ∙ (ap (λ z. Enters v ∷ z) (s2 ∙ (s3 ∙ ap (λ z. inside ++ z) (s4 ∙ ap (λ z. Leaves v ∷ z) (s5 ∙ ap (λ z. behind ++ z) e1))))
        ∙ (ap (λ x. Enters x ∷ (inside ++ Leaves x ∷ (behind ++ last))) e0
        ∙ ap (λ z. Enters w ∷ z) (sym (append_assoc inside (Leaves w ∷ behind) last))))

    -- the walk over trees in preorder is that over the trees
    pub walk_trees : (us : Trees) → AreNamed us → remaining names (nodes_of rule 0 us) 0 [] ≡ visits rule 0 0 us
    walk_trees us h =
        let e : nodes_of rule 0 us ≡ nodes_of rule 0 us ++ [] = simp append-nil in
        ap (λ ts. remaining names ts 0 []) e ∙ (walk_over us 0 [] [] h tt ∙ append-nil (visits rule 0 0 us))

-- the last of a list
split_last : {X : Type 0} (xs : List X) (x : X) → 0 < length xs → x ≡ get_or xs (length xs - 1) x → xs ≡ take (length xs - 1) xs ++ x ∷ []
split_last xs x l at =
    let n : suc (length xs - 1) ≡ length xs = omega (arith, l) in
    sym (take-length xs) ∙ (ap (λ k. take k xs) (sym n) ∙ (take-suc xs (length xs - 1) x (omega (arith, l)) ∙ ap (λ y. take (length xs - 1) xs ++ y ∷ []) (sym at)))

-- the open trees, the last one first
abbrev pub open_trees : List VisitedTree → List Visited
open_trees items = map visited_of (reverse items)

one_first : (front : List VisitedTree) (t : VisitedTree) → open_trees (front ++ t ∷ []) ≡ visited_of t ∷ open_trees front
one_first front t = ap (λ ts. map visited_of ts) (reverse-append front (t ∷ []))

-- out of the last one
pub leaves_last : (names : List Text) (ts : List TreeNode) (k : ℕ) (items rest : List VisitedTree) (last : VisitedTree) → 0 < length items → last ≡ get_or items (length items - 1) last
    → rest ≡ take (length items - 1) items → nat_le last.node.after k ≡ true
    → remaining names ts k (open_trees items) ≡ Leaves (visited_of last) ∷ remaining names ts k (open_trees rest)
leaves_last names ts k items rest last l at e h =
    ap (λ is. remaining names ts k (open_trees is)) (split_last items last l at ∙ ap (λ is. is ++ last ∷ []) (sym e))
    ∙ (ap (λ os. remaining names ts k os) (one_first rest last) ∙ close_one names ts k (visited_of last) (open_trees rest) h)

-- the last one goes on
pub last_goes : (k : ℕ) (items : List VisitedTree) (last : VisitedTree) → 0 < length items → last ≡ get_or items (length items - 1) last → nat_le last.node.after k ≡ false
    → Goes (suc k) (open_trees items)
last_goes k items last l at h =
    let front = take (length items - 1) items in
    let e : open_trees items ≡ visited_of last ∷ open_trees front = ap open_trees (split_last items last l at) ∙ one_first front last in
    subst (Goes (suc k)) (sym e) (let less : k < last.node.after = grind (arith, h) in omega (arith, less))

-- into the next tree
pub enters_next : (names : List Text) (nodes : List TreeNode) (k n : ℕ) (items new : List VisitedTree) (t : VisitedTree) → Goes (suc k) (open_trees items) → k < length nodes
    → t.node ≡ get_or nodes k t.node → visited_of t ≡ entered names t.node k (length items) → new ≡ items ++ t ∷ [] → n ≡ suc k
    → remaining names (drop k nodes) k (open_trees items) ≡ Enters (visited_of t) ∷ remaining names (drop n nodes) n (open_trees new)
enters_next names nodes k n items new t goes l at is e m =
    let rest = drop (suc k) nodes in
    let left = open_trees items in
    let d : drop k nodes ≡ t.node ∷ rest = drop-cons nodes k t.node l ∙ ap (λ x. x ∷ rest) (sym at) in
    let long : length left ≡ length items = length-map (reverse items) visited_of ∙ length-reverse items in
    let v : entered names t.node k (length left) ≡ visited_of t = ap (entered names t.node k) long ∙ sym is in
    let opened : visited_of t ∷ left ≡ open_trees new = sym (ap open_trees e ∙ one_first items t) in
    ap (λ ts. remaining names ts k left) d
    ∙ (open_one names t.node rest k left goes
    ∙ (ap (λ x. Enters x ∷ remaining names rest (suc k) (x ∷ left)) v
    ∙ ap (λ x. Enters (visited_of t) ∷ x) (ap (λ os. remaining names rest (suc k) os) opened ∙ ap (λ j. remaining names (drop j nodes) j (open_trees new)) (sym m))))

-- the trees of a match, by the names of a grammar's rules
module _ (g : Grammar) (names : List Text) (same : names ≡ map (λ r. r.name) g) where
  all_texts : (us : Trees) → HaveTreeNumbers g us → AreNamed names (number_in g) us
  all_texts None' h = tt
  all_texts (Tree r i j inner others) h =
      (ap (λ ns. name_in ns (number_in g r)) same ∙ known_text g r (number_within g r h.0), all_texts inner h.1, all_texts others h.2)

  pub walk_of_names : (n : Text) (s : State) (classes : Classes) (it : ParseTree) → (x : HasParseTree g n s classes it)
      → remaining names it.trees.items 0 [] ≡ visits (number_in g) 0 0 x.trees
  walk_of_names n s classes it x =
      ap (λ ts. remaining names ts 0 []) x.nodes
      ∙ walk_trees names (number_in g) x.trees (all_texts x.trees (trees_have g x.found))

-- Nodes by their trees.
use Rattle.std.proofs.Common.{◌≡◌, refl, ℕ, ◌+◌, List, [], ◌∷◌, false, nat_eq, codes}
use Rattle.base_language.specs.Language.Text.{Text}
use Rattle.base_language.specs.Language.Expression.{Expression, Push, whitespace, comment}
use Rattle.base_language.specs.Language.State.{State, Trees, None', Tree, Success}
use Rattle.base_language.specs.declared.grammar.Rule.TheVariants as is
use Rattle.front_grammar.specs.Shape.{Lone}
use Rattle.front_spanned.specs.Spanned as spanned
use Rattle.front_spanned.specs.Spanned.{Spanned, Leaf, One, end_of}
use Rattle.front_reader.specs.Reading.{ANode, Reads, bare, pushed}
use Rattle.front_reader.specs.Flaws.{own_flaw}
use Rattle.pest_meta.proofs.Deriving.{at, Calls, str, call, seq, seq_first, left, right, stays}
use Rattle.pest_meta.proofs.Parts.{NodeStart, node_start, Denotes, one_says, IsLeftAt, IsFlawless, flawless_none, flawless_both, flawless_tree, still_left, OperatorsAt, NodeAt, ExpressionAt}
use Rattle.pest_meta.proofs.Assembly.{opening, closing, expression_stays}
use Rattle.pest_meta.proofs.Characters.{sign_misses}

module _ (text : List ℕ) where
  pub node_with : (p q : ℕ) (t K₀ K : Text) (r : Text) (inner : Trees) (x : Spanned) (e b : Expression) → NodeStart t
      → Calls is.node (at p t) (Success (at q K₀) (Tree r p q inner None')) → Reads text ANode (Tree r p q inner None') x → Denotes x e → IsFlawless text (Tree r p q inner None')
      → IsLeftAt text p t → ((k : ℕ) → IsLeftAt text k K₀ → OperatorsAt text k K₀ e b K) → NodeAt text p t b K
  node_with p q t K₀ K r inner x e b starts d reads says flawless h loop =
      let l = loop q (still_left text d h) in
      let o = l.from_start in
      let (y, m, s) = o.reads x says in
      record {
        starts = starts;
        node_end = _;
        node_trees = _;
        node = d;
        begin = l.begin;
        skip = l.skip;
        end = o.end;
        trees = o.trees;
        loop = o.does;
        place = o.place;
        after = o.after;
        said = y;
        reads = bare reads m;
        says = s;
        flawless = flawless_both text flawless o.flawless;
      }

  -- a node of a terminal rule
  pub as_node : (c : ℕ) (t : Text) (p : ℕ) {s : State} {us : Trees} → nat_eq 40 c ≡ false → Calls is.terminal (at p (c ∷ t)) (Success s us) → Calls is.node (at p (c ∷ t)) (Success s us)
  unfolding whitespace comment
  as_node c t p h d = call is.node refl (right (seq_first (seq_first (call is.opening_paren refl (sign_misses 40 [] c t p h)))) d)

  -- a `PUSH` round an expression
  pub push_node : (p : ℕ) (t : Text) (e b : Expression) (K₀ K : Text) → IsLeftAt text p (80 ∷ 85 ∷ 83 ∷ 72 ∷ 40 ∷ t) → ExpressionAt text (p + 4 + 1) t e (41 ∷ K₀)
      → ((q : ℕ) → IsLeftAt text q K₀ → OperatorsAt text q K₀ (Push e) b K) → NodeAt text p (80 ∷ 85 ∷ 83 ∷ 72 ∷ 40 ∷ t) b K
  unfolding whitespace comment own_flaw
  push_node p t e b K₀ K h x loop =
      let u : Text = 85 ∷ 83 ∷ 72 ∷ 40 ∷ t in
      let pushes : Calls is._push (at p (80 ∷ u)) (Success (at (x.place + 1) K₀) (Tree (codes "_push") p (x.place + 1) (Lone (codes "opening_paren") (p + 4) (p + 4 + 1) (Tree (codes "expression") (p + 4 + 1) x.end.position x.inner (Lone (codes "closing_paren") x.place (x.place + 1) None'))) None')) =
      call is._push refl (seq (seq (seq str (stays 40 t (p + 4) refl) (opening text t (p + 4))) (expression_stays text x.starts (p + 4 + 1)) x.does) x.after (closing text K₀ x.place)) in
      let d = as_node 80 u p refl (call is.terminal refl (left (left (left (left (left (right (call is._push_literal refl (seq_first (seq_first (seq_first str)))) pushes))))))) in
      node_with p (x.place + 1) (80 ∷ u) K₀ K _ _ _ (Push e) b (node_start 80 u refl refl refl refl) d (pushed x.reads) (one_says _ spanned.Push x.says)
      (flawless_tree text (λ vs. refl) (flawless_tree text (λ vs. refl) (flawless_none text) (flawless_both text x.flawless (flawless_tree text (λ vs. refl) (flawless_none text) (flawless_none text)))) (flawless_none text))
      h loop

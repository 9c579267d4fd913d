-- Trees by their rules' names, and names in trees that wait.
use Rattle.std.proofs.Common.{◌≡◌, ◌≤◌, ◌+◌, ℕ, List, [], ◌∷◌, ◌++◌, false, Bor, fold, sym, ap, ◌∙◌, if◌then◌else◌, bytes_eq, append_assoc, IsCharBoundary}
use Rattle.std.specs.Prelude.{⊤}
use Rattle.std.proofs.lemmas.Bool.{false_from_ne_true}
use Rattle.std.proofs.lemmas.Slice.Eq.{bytes_eq-Decides}
use Rattle.std.proofs.lemmas.List.Sums.{fold_push}
use Rattle.base_language.specs.Language.State.{Trees, None', Tree}
use Rattle.base_language.specs.Pieces.MetaRules.{name_of}
use Rattle.base_language.specs.Pieces.NamedTrees.{named}
use Rattle.front_nodes.specs.Nodes.{named_trees_of, trees_of}
use Rattle.base_language.specs.Pieces.TokenTrees.{TokenTrees, NoTokens, Token}
use Rattle.base_language.specs.Pieces.Saying.{Span, piece}
use Rattle.base_language.specs.declared.grammar.Rule.{Rule}
use Rattle.base_language.specs.declared.grammar.Rule.TheVariants as rule_is
use Rattle.front_nodes.specs.declared.nodes.TokenNode.{TokenNode}
use Rattle.base_language.proofs.MetaNames.{name_of-injective}
use Rattle.base_language.proofs.PairLemmas.{AreNested-le}
use Rattle.front_names.specs.GrammarNames.{own_name, names_in}
use Rattle.front_names.specs.Standing.{AreTreesWithin}

-- another rule has another name
pub name_differs : (r q : Rule) → ¬ (r ≡ q) → bytes_eq (name_of r) (name_of q) ≡ false
name_differs r q d = false_from_ne_true (bytes_eq (name_of r) (name_of q)) (λ e. d (name_of-injective r q ((bytes_eq-Decides (name_of r) (name_of q)).0 e)))

pub no_own_name : (text : List ℕ) (r : Rule) (i j : ℕ) → ¬ (r ≡ rule_is.identifier) → own_name text (name_of r) i j ≡ []
no_own_name text r i j d = ap (λ b. if b then piece text i j ∷ [] else []) (name_differs r rule_is.identifier d)

-- where the first of some trees stands, and what is in it and behind it
module _ {text : List ℕ} {r : Rule} {a b : ℕ} {inner others : TokenTrees Rule} where
  pub first_order : AreTreesWithin text (Token r a b inner others) → a ≤ b
  first_order h = AreNested-le text inner a b h.nested.1.0

  pub first_start : AreTreesWithin text (Token r a b inner others) → IsCharBoundary text a
  first_start h = h.nested.0.1.0

  pub first_end : AreTreesWithin text (Token r a b inner others) → IsCharBoundary text b
  first_end h = h.nested.0.1.1

  pub stand_inner : AreTreesWithin text (Token r a b inner others) → AreTreesWithin text inner
  stand_inner h = record { from = a; to = b; nested = h.nested.1.0 }

  pub stand_behind : AreTreesWithin text (Token r a b inner others) → AreTreesWithin text others
  stand_behind h = record { from = b; to = h.to; nested = h.nested.1.1 }

-- a slice of the code's trees
abbrev pub Slice : Type 0
Slice = Bor (List TokenNode)

-- how many trees there are, with the ends of their lists
abbrev pub count_of : Trees → ℕ
count_of None' = 1
count_of (Tree r i j inner others) = 1 + (count_of inner + count_of others)

abbrev pub waiting_count : List Slice → ℕ
waiting_count ws = fold (λ n w. count_of (named_trees_of w.now) + n) 0 ws

-- trees that wait, the last of them to be taken first, stand in the text
abbrev pub AllStand : List ℕ → List Slice → Type 0
AllStand text [] = ⊤
AllStand text (w ∷ ws) = AreTreesWithin text (trees_of w.now) × AllStand text ws

pub all_stand-push : (text : List ℕ) (ws : List Slice) (w : Slice) → AllStand text ws → AreTreesWithin text (trees_of w.now) → AllStand text (ws ++ w ∷ [])
all_stand-push text [] w h s = (s, tt)
all_stand-push text (v ∷ ws) w h s = (h.0, all_stand-push text ws w h.1 s)

pub all_stand-rest : (text : List ℕ) (ws : List Slice) (w : Slice) → AllStand text (ws ++ w ∷ []) → AllStand text ws
all_stand-rest text [] w h = tt
all_stand-rest text (v ∷ ws) w h = (h.0, all_stand-rest text ws w h.1)

pub all_stand-last : (text : List ℕ) (ws : List Slice) (w : Slice) → AllStand text (ws ++ w ∷ []) → AreTreesWithin text (trees_of w.now)
all_stand-last text [] w h = h.0
all_stand-last text (v ∷ ws) w h = all_stand-last text ws w h.1

-- the names in trees that wait
abbrev pub waiting_names : List ℕ → List Slice → List Span
waiting_names text ws = fold (λ names w. names_in text (named_trees_of w.now) ++ names) [] ws

pub waiting_names-push : (text : List ℕ) (ws : List Slice) (w : Slice) → waiting_names text (ws ++ w ∷ []) ≡ names_in text (named_trees_of w.now) ++ waiting_names text ws
waiting_names-push text ws w = fold_push (λ names w. names_in text (named_trees_of w.now) ++ names) [] ws w

pub waiting_count-push : (ws : List Slice) (w : Slice) → waiting_count (ws ++ w ∷ []) ≡ count_of (named_trees_of w.now) + waiting_count ws
waiting_count-push ws w = fold_push (λ n w. count_of (named_trees_of w.now) + n) 0 ws w

regrouped : (d w i o r : List Span) → d ++ ((w ++ (i ++ o)) ++ r) ≡ (d ++ w) ++ (i ++ (o ++ r))
regrouped d w i o r = simp append_assoc

-- the first of some trees is left: the trees in it are at hand, and those behind it wait
module _ (text : List ℕ) (ws vs : List Slice) (w inner others : Slice) (r : Rule) (a b : ℕ) (first : trees_of w.now ≡ Token r a b (trees_of inner.now) (trees_of others.now)) where
  pub names_inside : (done more all : List Span) → more ≡ done ++ own_name text (name_of r) a b
      → waiting_names text vs ≡ names_in text (named_trees_of others.now) ++ waiting_names text ws
      → all ≡ done ++ (names_in text (named_trees_of w.now) ++ waiting_names text ws)
      → all ≡ more ++ (names_in text (named_trees_of inner.now) ++ waiting_names text vs)
  names_inside done more all f g h =
      let i : List Span = names_in text (named (trees_of inner.now)) in
      let o : List Span = names_in text (named (trees_of others.now)) in
      let own : List Span = own_name text (name_of r) a b in
      let rest : List Span = waiting_names text ws in
      h ∙ ap (λ t. done ++ (names_in text (named t) ++ rest)) first
      ∙ regrouped done own i o rest
      ∙ ap (λ l. l ++ (i ++ (o ++ rest))) (sym f)
      ∙ ap (λ l. more ++ (i ++ l)) (sym g)

-- no trees are at hand, and the last that wait are taken
module _ (text : List ℕ) (ws : List Slice) (w next : Slice) (none : trees_of w.now ≡ NoTokens) where
  pub names_next : (done all : List Span)
      → all ≡ done ++ (names_in text (named_trees_of w.now) ++ waiting_names text (ws ++ next ∷ []))
      → all ≡ done ++ (names_in text (named_trees_of next.now) ++ waiting_names text ws)
  names_next done all h =
      h ∙ ap (λ t. done ++ (names_in text (named t) ++ waiting_names text (ws ++ next ∷ []))) none
      ∙ ap (λ l. done ++ l) (waiting_names-push text ws next)

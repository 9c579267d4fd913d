-- Each step of the search keeps what is known.
use Rattle.std.proofs.Common.{◌≡◌, ◌⊎◌, inl, inr, ℕ, List, [], ◌∷◌, Option, Some, None, Bool, true, false, nat_eq, slice_get, refl, sym, ◌∙◌, ap, subst}
use Rattle.std.specs.Cmp.{unsigned_Decides}
use Rattle.std.specs.List.{Contains}
use Rattle.std.proofs.lemmas.List.Elements.{Contains-append_left, Contains-append_cases}
use Rattle.base_language.specs.Language.Text.{Text}
use Rattle.base_language.specs.Language.Expression.{Expression}
use Rattle.base_language.specs.Language.Expression as bare
use Rattle.base_language.proofs.Basics.{one_item}
use Rattle.front_spanned.specs.Erasure.{without_spans, round}
use Rattle.front_spanned.specs.Spanned as spanned
use Rattle.front_spanned.specs.Spanned.{Spanned, One, Two, Unary, Seq, Choice, SpannedRule, Span}
use Rattle.front_spanned.specs.declared.node.ParserRule.{ParserRule}
use Rattle.base_graphs.specs.Least.{is_set_at}
use Rattle.front_validator.specs.LeftRecursion.{Closed, said, Passes, Walks, walks_inside, walks_first, walks_second, walks_neither, walks_other}
use Rattle.front_analysis.specs.Nodes.{all_nodes}
use Rattle.front_validator.specs.Regions.{IsNodeOf}
use Rattle.front_validator.specs.Searching.{ordered, rest, after, views, Calls, name_of, last_name, WalkFinds, TasksFind, AwaitsCall, ArePlaced, IsKnown, AreCovered, IsSearch}
use Rattle.front_validator.specs.Walk.{Walked, w_first, w_second, w_pos_pred, w_neg_pred, w_left, w_right, w_opt, w_rep, w_rep_once, w_rep_exact, w_rep_min, w_rep_max, w_rep_min_max, w_push, w_tag}
use Rattle.front_validator.specs.declared.recursions.Task.{Task}
use Rattle.front_validator.specs.declared.recursions.Task.TheVariants.{Visit, Leave}
use Rattle.front_validator.proofs.NoneWalks.{alone}

pub data Compared (k m : ℕ) : Type 0 where
  same_place : k ≡ m → Compared k m
  other_place : (k ≡ m → ⊥) → Compared k m

pub compared : (k m : ℕ) → Compared k m
compared k m = go (nat_eq k m) refl
  where
    go : (b : Bool) → nat_eq k m ≡ b → Compared k m
    go true h = same_place ((unsigned_Decides k m).0 h)
    go false h = other_place (λ e. let t = (unsigned_Decides k m).1 e in let u = sym t ∙ h in cc)

-- what is walked inside is walked in the operand
in_round : (rules : List SpannedRule) (v : Text) (f : Unary) (e : Expression) (n : Text) → Walked (said rules) v (round f e) n → Walked (said rules) v e n
in_round rules v spanned.PosPred e n (w_pos_pred w) = w
in_round rules v spanned.NegPred e n (w_neg_pred w) = w
in_round rules v spanned.Opt e n (w_opt w) = w
in_round rules v spanned.Rep e n (w_rep w) = w
in_round rules v spanned.RepOnce e n (w_rep_once w) = w
in_round rules v (spanned.RepExact i) e n (w_rep_exact w) = w
in_round rules v (spanned.RepMin i) e n (w_rep_min w) = w
in_round rules v (spanned.RepMax i) e n (w_rep_max w) = w
in_round rules v (spanned.RepMinMax i j) e n (w_rep_min_max w) = w
in_round rules v spanned.Push e n (w_push w) = w
in_round rules v (spanned.Tag t) e n (w_tag w) = w

module _ (rules : List ParserRule) (roots : List ℕ) (start : ℕ) (entered : List Bool) where
  abbrev V : List SpannedRule
  V = views rules roots start

  abbrev Search : List Task → List ℕ → Type 0
  Search todo path = IsSearch rules roots start entered todo path

  -- the last rule of the path is left
  pub left : (todo : List Task) (path : List ℕ) → Search (Leave ∷ todo) path → Search todo (rest path)
  left todo [] s = record { alike = s.alike; placed = s.placed; answers = s.answers; covered = tt; settled = s.settled; begun = s.begun; entered_all = s.entered_all; last_ones = s.last_ones }
  left todo (k ∷ path) s = record {
    alike = s.alike;
    placed = s.placed;
    answers = s.answers;
    covered = s.covered.1;
    settled = λ m h out r n at d. go m h out r n at d (compared m k);
    begun = s.begun;
    entered_all = λ m h. s.entered_all m (Contains-append_left (ordered path) (k ∷ []) m h);
    last_ones = λ m h. s.last_ones m (Contains-append_left (ordered path) (k ∷ []) m h);
  }
    where
      go : (m : ℕ) → is_set_at entered m ≡ true → (Contains (ordered path) m → ⊥) → (r : SpannedRule) (n : ℕ) → slice_get V m ≡ Some r → Calls rules roots start r.name r.body n → Compared m k → IsKnown rules roots start entered n
      go m h out r n at d (same_place e) = elim (s.covered.0 r n (subst (λ z. slice_get V z ≡ Some r) e at) d) [ inl a ↦ a | inr a ↦ absurd a ]
      go m h out r n at d (other_place f) = s.settled m h (λ i. elim (Contains-append_cases (ordered path) (k ∷ []) m i) [ inl j ↦ out j | inr j ↦ f (alone k m j) ]) r n at d

  covered_more : (v : Text) (old new : List Task) (k : ℕ) (path : List ℕ) → name_of rules roots start (slice_get V k) ≡ v → after old ≡ after new
      → ((m : ℕ) → AwaitsCall rules roots start v old m → IsKnown rules roots start entered m ⊎ AwaitsCall rules roots start v new m)
      → AreCovered rules roots start entered (k ∷ path) old → AreCovered rules roots start entered (k ∷ path) new
  covered_more v old new k path is_v same f c = (
    λ r m at d. (let e : v ≡ r.name = sym is_v ∙ ap (name_of rules roots start) at in
        elim (c.0 r m at d) [ inl a ↦ inl a | inr a ↦ subst (λ z. IsKnown rules roots start entered m ⊎ AwaitsCall rules roots start z new m) e (f m (subst (λ z. AwaitsCall rules roots start z old m) (sym e) a)) ]),
    subst (λ z. AreCovered rules roots start entered path z) same c.1,
  )

  -- a node is walked over, and what is inside it is to be walked over in its place
  pub stepped : (i : ℕ) (x : Spanned) (todo new : List Task) (k : ℕ) (path : List ℕ) → slice_get (all_nodes rules) i ≡ Some x → after todo ≡ after new → ArePlaced rules roots start (k ∷ path) new
      → ((o : Option Closed) → TasksFind rules roots start (k ∷ path) new o → TasksFind rules roots start (k ∷ path) (Visit i ∷ todo) o)
      → ((m : ℕ) → Calls rules roots start (last_name rules roots start (k ∷ path)) x m → IsKnown rules roots start entered m ⊎ AwaitsCall rules roots start (last_name rules roots start (k ∷ path)) new m)
      → ((m : ℕ) → AwaitsCall rules roots start (last_name rules roots start (k ∷ path)) todo m → AwaitsCall rules roots start (last_name rules roots start (k ∷ path)) new m)
      → Search (Visit i ∷ todo) (k ∷ path) → Search new (k ∷ path)
  stepped i x todo new k path at same placed goes called kept s = record {
    alike = s.alike;
    placed = placed;
    answers = λ o g. s.answers o (goes o g);
    covered = covered_more (last_name rules roots start (k ∷ path)) (Visit i ∷ todo) new k path refl same
        (λ m d. elim d [ inl a ↦ called m (subst (λ z. Calls rules roots start (last_name rules roots start (k ∷ path)) z m) (one_item a.1 at) a.2) | inr a ↦ inr (kept m a) ]) s.covered;
    settled = s.settled;
    begun = s.begun;
    entered_all = s.entered_all;
    last_ones = s.last_ones;
  }

  -- a node that comes to none, all of whose calls are known
  pub nothing : (i : ℕ) (x : Spanned) (todo : List Task) (k : ℕ) (path : List ℕ) → slice_get (all_nodes rules) i ≡ Some x
      → Walks V start (ordered (k ∷ path)) (last_name rules roots start (k ∷ path)) x None
      → ((m : ℕ) → Calls rules roots start (last_name rules roots start (k ∷ path)) x m → IsKnown rules roots start entered m)
      → Search (Visit i ∷ todo) (k ∷ path) → Search todo (k ∷ path)
  nothing i x todo k path at none known s = stepped i x todo todo k path at refl s.placed.1 goes (λ m d. inl (known m d)) (λ m d. d) s
    where
      comes : WalkFinds rules roots start (k ∷ path) i None
      comes y h = subst (λ z. Walks V start (ordered (k ∷ path)) (last_name rules roots start (k ∷ path)) z None) (one_item at h) none

      goes : (o : Option Closed) → TasksFind rules roots start (k ∷ path) todo o → TasksFind rules roots start (k ∷ path) (Visit i ∷ todo) o
      goes None g = (comes, g)
      goes (Some z) g = inr (comes, g)

  -- a node round another
  pub inside : (i j : ℕ) (s : Span) (f : Unary) (x : Spanned) (todo : List Task) (k : ℕ) (path : List ℕ) → slice_get (all_nodes rules) i ≡ Some (One s f x) → IsNodeOf rules roots k j x
      → Search (Visit i ∷ todo) (k ∷ path) → Search (Visit j ∷ todo) (k ∷ path)
  inside i j s f x todo k path at place search = stepped i (One s f x) todo (Visit j ∷ todo) k path at refl ((x, place), search.placed.1) goes
      (λ m d. inr (inl (x, place.node, (d.0, in_round V (last_name rules roots start (k ∷ path)) f (without_spans x) d.0 d.1, d.2)))) (λ m d. inr d) search
    where
      comes : (o : Option Closed) → WalkFinds rules roots start (k ∷ path) j o → WalkFinds rules roots start (k ∷ path) i o
      comes o c y h = subst (λ z. Walks V start (ordered (k ∷ path)) (last_name rules roots start (k ∷ path)) z o) (one_item at h) (walks_inside (c x place.node))

      goes : (o : Option Closed) → TasksFind rules roots start (k ∷ path) (Visit j ∷ todo) o → TasksFind rules roots start (k ∷ path) (Visit i ∷ todo) o
      goes None g = (comes None g.0, g.1)
      goes (Some z) (inl g) = inl (comes (Some z) g)
      goes (Some z) (inr g) = inr (comes None g.0, g.1)

  -- a sequence of which only the left side is walked over
  pub first_only : (i j : ℕ) (s : Span) (x y : Spanned) (todo : List Task) (k : ℕ) (path : List ℕ) → slice_get (all_nodes rules) i ≡ Some (Two s Seq x y) → IsNodeOf rules roots k j x
      → (Passes V (last_name rules roots start (k ∷ path)) x → ⊥)
      → Search (Visit i ∷ todo) (k ∷ path) → Search (Visit j ∷ todo) (k ∷ path)
  first_only i j s x y todo k path at place stops search = stepped i (Two s Seq x y) todo (Visit j ∷ todo) k path at refl ((x, place), search.placed.1) goes
      (λ m d. inr (inl (x, place.node, (d.0, left_side d.0 d.1, d.2)))) (λ m d. inr d) search
    where
      left_side : (n : Text) → Walked (said V) (last_name rules roots start (k ∷ path)) (bare.Seq (without_spans x) (without_spans y)) n → Walked (said V) (last_name rules roots start (k ∷ path)) (without_spans x) n
      left_side n (w_first w) = w
      left_side n (w_second p w) = absurd (stops p)

      some : (z : Closed) → WalkFinds rules roots start (k ∷ path) j (Some z) → WalkFinds rules roots start (k ∷ path) i (Some z)
      some z c y' h = subst (λ w. Walks V start (ordered (k ∷ path)) (last_name rules roots start (k ∷ path)) w (Some z)) (one_item at h) (walks_first (c x place.node))

      none : WalkFinds rules roots start (k ∷ path) j None → WalkFinds rules roots start (k ∷ path) i None
      none c y' h = subst (λ w. Walks V start (ordered (k ∷ path)) (last_name rules roots start (k ∷ path)) w None) (one_item at h) (walks_neither (c x place.node) (λ p. absurd (stops p)))

      goes : (o : Option Closed) → TasksFind rules roots start (k ∷ path) (Visit j ∷ todo) o → TasksFind rules roots start (k ∷ path) (Visit i ∷ todo) o
      goes None g = (none g.0, g.1)
      goes (Some z) (inl g) = inl (some z g)
      goes (Some z) (inr g) = inr (none g.0, g.1)

  -- both sides of a node
  module _ (i j l : ℕ) (x y both : Spanned) (todo : List Task) (k : ℕ) (path : List ℕ) (at : slice_get (all_nodes rules) i ≡ Some both) (place : IsNodeOf rules roots k j x) (other : IsNodeOf rules roots k l y)
      (some_first : (z : Closed) → Walks V start (ordered (k ∷ path)) (last_name rules roots start (k ∷ path)) x (Some z) → Walks V start (ordered (k ∷ path)) (last_name rules roots start (k ∷ path)) both (Some z))
      (onward : (o : Option Closed) → Walks V start (ordered (k ∷ path)) (last_name rules roots start (k ∷ path)) x None → Walks V start (ordered (k ∷ path)) (last_name rules roots start (k ∷ path)) y o → Walks V start (ordered (k ∷ path)) (last_name rules roots start (k ∷ path)) both o)
      (sides : (n : Text) → Walked (said V) (last_name rules roots start (k ∷ path)) (without_spans both) n → Walked (said V) (last_name rules roots start (k ∷ path)) (without_spans x) n ⊎ Walked (said V) (last_name rules roots start (k ∷ path)) (without_spans y) n) where
    both_comes : (o : Option Closed) → WalkFinds rules roots start (k ∷ path) j None → WalkFinds rules roots start (k ∷ path) l o → WalkFinds rules roots start (k ∷ path) i o
    both_comes o c d w h = subst (λ u. Walks V start (ordered (k ∷ path)) (last_name rules roots start (k ∷ path)) u o) (one_item at h) (onward o (c x place.node) (d y other.node))

    first_comes : (z : Closed) → WalkFinds rules roots start (k ∷ path) j (Some z) → WalkFinds rules roots start (k ∷ path) i (Some z)
    first_comes z c w h = subst (λ u. Walks V start (ordered (k ∷ path)) (last_name rules roots start (k ∷ path)) u (Some z)) (one_item at h) (some_first z (c x place.node))

    both_goes : (o : Option Closed) → TasksFind rules roots start (k ∷ path) (Visit j ∷ Visit l ∷ todo) o → TasksFind rules roots start (k ∷ path) (Visit i ∷ todo) o
    both_goes None g = (both_comes None g.0 g.1.0, g.1.1)
    both_goes (Some z) (inl g) = inl (first_comes z g)
    both_goes (Some z) (inr (c, inl d)) = inl (both_comes (Some z) c d)
    both_goes (Some z) (inr (c, inr d)) = inr (both_comes None c d.0, d.1)

    both_owed : (m : ℕ) → Calls rules roots start (last_name rules roots start (k ∷ path)) both m → AwaitsCall rules roots start (last_name rules roots start (k ∷ path)) (Visit j ∷ Visit l ∷ todo) m
    both_owed m d = elim (sides d.0 d.1) [ inl w ↦ inl (x, place.node, (d.0, w, d.2)) | inr w ↦ inr (inl (y, other.node, (d.0, w, d.2))) ]

    pub both_sides : Search (Visit i ∷ todo) (k ∷ path) → Search (Visit j ∷ Visit l ∷ todo) (k ∷ path)
    both_sides search = stepped i both todo (Visit j ∷ Visit l ∷ todo) k path at refl ((x, place), ((y, other), search.placed.1)) both_goes
        (λ m d. inr (both_owed m d)) (λ m d. inr (inr d)) search

  choice_sides : (v n : Text) (x y : Spanned) → Walked (said V) v (bare.Choice (without_spans x) (without_spans y)) n → Walked (said V) v (without_spans x) n ⊎ Walked (said V) v (without_spans y) n
  choice_sides v n x y (w_left w) = inl w
  choice_sides v n x y (w_right w) = inr w

  seq_sides : (v n : Text) (x y : Spanned) → Walked (said V) v (bare.Seq (without_spans x) (without_spans y)) n → Walked (said V) v (without_spans x) n ⊎ Walked (said V) v (without_spans y) n
  seq_sides v n x y (w_first w) = inl w
  seq_sides v n x y (w_second p w) = inr w

  pub of_choice : (i j l : ℕ) (s : Span) (x y : Spanned) (todo : List Task) (k : ℕ) (path : List ℕ) → slice_get (all_nodes rules) i ≡ Some (Two s Choice x y) → IsNodeOf rules roots k j x → IsNodeOf rules roots k l y
      → Search (Visit i ∷ todo) (k ∷ path) → Search (Visit j ∷ Visit l ∷ todo) (k ∷ path)
  of_choice i j l s x y todo k path at place other = both_sides i j l x y (Two s Choice x y) todo k path at place other (λ z w. walks_first w) (λ o w u. walks_other w u)
      (λ n w. choice_sides (last_name rules roots start (k ∷ path)) n x y w)

  pub of_sequence : (i j l : ℕ) (s : Span) (x y : Spanned) (todo : List Task) (k : ℕ) (path : List ℕ) → slice_get (all_nodes rules) i ≡ Some (Two s Seq x y) → IsNodeOf rules roots k j x → IsNodeOf rules roots k l y
      → Passes V (last_name rules roots start (k ∷ path)) x
      → Search (Visit i ∷ todo) (k ∷ path) → Search (Visit j ∷ Visit l ∷ todo) (k ∷ path)
  of_sequence i j l s x y todo k path at place other passes = both_sides i j l x y (Two s Seq x y) todo k path at place other (λ z w. walks_first w) onward
      (λ n w. seq_sides (last_name rules roots start (k ∷ path)) n x y w)
    where
      onward : (o : Option Closed) → Walks V start (ordered (k ∷ path)) (last_name rules roots start (k ∷ path)) x None → Walks V start (ordered (k ∷ path)) (last_name rules roots start (k ∷ path)) y o → Walks V start (ordered (k ∷ path)) (last_name rules roots start (k ∷ path)) (Two s Seq x y) o
      onward None w u = walks_neither w (λ p. u)
      onward (Some z) w u = walks_second w passes u

-- How terms, chains and expressions are put together.
use Rattle.std.proofs.Common.{◌≡◌, refl, ◌∙◌, ap, ap₂, subst, ℕ, ◌+◌, List, ◌∷◌, true, codes}
use Rattle.base_language.specs.Language.Text.{Text}
use Rattle.base_language.specs.Language.Expression.{Expression, Seq, Choice, PosPred, NegPred, NodeTag, whitespace, comment}
use Rattle.base_language.specs.Language.State.{Trees, None', Tree, Success, Failure, joined}
use Rattle.base_language.specs.declared.grammar.Rule.TheVariants as is
use Rattle.base_language.proofs.Steps.{joined_assoc}
use Rattle.base_language.specs.Pieces.Saying.{piece}
use Rattle.front_grammar.specs.Shape.{Lone}
use Rattle.front_spanned.specs.Spanned as spanned
use Rattle.front_spanned.specs.Spanned.{Spanned, Leaf, One, Two, Span, Unary, starting, ending, end_of}
use Rattle.front_reader.specs.Reading.{AnExpression, ATerm, Reads, Postfixed, done, more, Postfix, pos_pred, neg_pred, tagged, tag_name, one_term, one_alternative, sequence, choice, unbarred, grouped, around, both}
use Rattle.front_reader.specs.Flaws.{own_flaw}
use Rattle.front_spanned.specs.Erasure.{round, between}
use Rattle.pest_meta.specs.Nesting.{nested_right, sequence_of, choice_of}
use Rattle.pest_meta.proofs.Deriving.{at, is_solid, Calls, Skips, str, call, seq, seq_first, left, right, opt, opt_none, rep, rep_none, turn, turn_none, stays, one_blank, fails}
use Rattle.pest_meta.proofs.Parts.{Link, Tilde, Bar, sign, joined_by, category, MayFollowTerm, tilde, bar, brace, paren, MayFollowExpression, by_brace, by_paren, TermStart, term_start, ExpressionStart, expression_start, expression_begins, NodeStart, node_start, term_begins, Denotes, one_says, starting_says, ending_says, IsLeftAt, IsFlawless, flawless_none, flawless_both, flawless_tree, still_left, OperatorsAt, NodeAt, TermAt, TermCall, ChainAt, ExpressionAt}

-- nesting to the right is the same whichever side is nested_right first
before_seq-assoc : (a b c : Expression) → sequence_of (sequence_of a b) c ≡ sequence_of a (sequence_of b c)
before_seq-assoc (Seq a b) c d = ap (Seq a) (before_seq-assoc b c d)
before_seq-assoc _ c d = refl

before_choice-assoc : (a b c : Expression) → choice_of (choice_of a b) c ≡ choice_of a (choice_of b c)
before_choice-assoc (Choice a b) c d = ap (Choice a) (before_choice-assoc b c d)
before_choice-assoc _ c d = refl

link-assoc : (l : Link) (a b c : Expression) → nested_right (joined_by l (joined_by l a b) c) ≡ nested_right (joined_by l a (joined_by l b c))
link-assoc Tilde a b c = before_seq-assoc (nested_right a) (nested_right b) (nested_right c)
link-assoc Bar a b c = before_choice-assoc (nested_right a) (nested_right b) (nested_right c)

abbrev joins : Link → spanned.Binary
joins Tilde = spanned.Seq
joins Bar = spanned.Choice

link_same : (l : Link) (a b c d : Expression) → nested_right a ≡ nested_right b → nested_right c ≡ nested_right d → nested_right (between (joins l) a c) ≡ nested_right (joined_by l b d)
link_same Tilde a b c d h k = ap₂ sequence_of h k
link_same Bar a b c d h k = ap₂ choice_of h k

link_says : (l : Link) {s : Span} {x y : Spanned} {a b : Expression} → Denotes x a → Denotes y b → Denotes (Two s (joins l) x y) (joined_by l a b)
link_says l h k = record { same = link_same l _ _ _ _ h.same k.same }

abbrev sign_name : Link → Text
sign_name Tilde = codes "sequence_operator"
sign_name Bar = codes "choice_operator"

module _ (text : List ℕ) where
  pub stays_at : {t : Text} → TermStart t → (p : ℕ) → Skips (at p t) p t
  stays_at (term_start c K h i j) p = stays c K p h

  pub blank_at : {t : Text} → TermStart t → (p : ℕ) → Skips (at p (32 ∷ t)) (p + 1) t
  blank_at (term_start c K h i j) p = one_blank c K p h

  pub expression_stays : {t : Text} → ExpressionStart t → (p : ℕ) → Skips (at p t) p t
  expression_stays (expression_start c K h) p = stays c K p h

  pub blank_before : {t : Text} → ExpressionStart t → (p : ℕ) → Skips (at p (32 ∷ t)) (p + 1) t
  blank_before (expression_start c K h) p = one_blank c K p h

  no_tag : {t : Text} → TermStart t → (p : ℕ) → Calls is.node_tag (at p t) Failure
  no_tag (term_start c K h i j) p = fails is.node_tag c K p i

  no_bar : {t : Text} → TermStart t → (p : ℕ) → Calls is.choice_operator (at p t) Failure
  no_bar (term_start c K h i j) p = fails is.choice_operator c K p j

  no_sign : {t : Text} → NodeStart t → (p : ℕ) → Calls is.prefix_operator (at p t) Failure
  no_sign (node_start c K h i j k) p = fails is.prefix_operator c K p k

  -- behind a term
  record BehindTerm (p : ℕ) (K₀ K : Text) : Type 0 where
    pub place : ℕ
    pub skip : Skips (at p K₀) place K
    pub stay : Skips (at place K) place K
    pub none : Calls is.postfix_operator (at place K) Failure

  leaving : {K₀ K : Text} → MayFollowTerm K₀ K → (p : ℕ) → BehindTerm p K₀ K
  leaving (tilde K) p = record { place = p + 1; skip = one_blank 126 (32 ∷ K) p refl; stay = stays 126 (32 ∷ K) (p + 1) refl; none = fails is.postfix_operator 126 (32 ∷ K) (p + 1) refl }
  leaving (bar K) p = record { place = p + 1; skip = one_blank 124 (32 ∷ K) p refl; stay = stays 124 (32 ∷ K) (p + 1) refl; none = fails is.postfix_operator 124 (32 ∷ K) (p + 1) refl }
  leaving (brace K) p = record { place = p + 1; skip = one_blank 125 K p refl; stay = stays 125 K (p + 1) refl; none = fails is.postfix_operator 125 K (p + 1) refl }
  leaving (paren K) p = record { place = p; skip = stays 41 K p refl; stay = stays 41 K p refl; none = fails is.postfix_operator 41 K p refl }

  ends_chain : {K₀ K : Text} → MayFollowExpression K₀ K → (p : ℕ) → Calls is.infix_operator (at p K) Failure
  ends_chain (by_brace K) p = fails is.infix_operator 125 K p refl
  ends_chain (by_paren K) p = fails is.infix_operator 41 K p refl

  closed_stays : {K₀ K : Text} → MayFollowExpression K₀ K → (p : ℕ) → Skips (at p K) p K
  closed_stays (by_brace K) p = stays 125 K p refl
  closed_stays (by_paren K) p = stays 41 K p refl

  -- no postfix operator
  pub no_operators : {K₀ K : Text} (b : Expression) → MayFollowTerm K₀ K → (p : ℕ) → OperatorsAt text p K₀ b b K
  no_operators b h p = let l = leaving h p in record {
    begin = _;
    skip = l.skip;
    from_start = record { end = _; trees = None'; does = rep_none l.none; place = l.place; after = l.stay; reads = λ x i. (x, done, i); flawless = flawless_none text };
    going_on = record { end = _; trees = None'; does = turn_none l.skip l.none; place = l.place; after = l.skip; reads = λ x i. (x, done, i); flawless = flawless_none text };
  }

  -- one more postfix operator
  pub operator : {r : Text} {inner : Trees} (p q c : ℕ) (t u K : Text) (f : Unary) (a b : Expression) → is_solid c ≡ true
      → Calls is.postfix_operator (at p (c ∷ t)) (Success (at q u) (Tree r p q inner None'))
      → Postfix text r inner f → IsFlawless text (Tree r p q inner None') → OperatorsAt text q u (round f a) b K → OperatorsAt text p (c ∷ t) a b K
  operator {r} {inner} p q c t u K f a b solid d says flawless l =
      let o = l.going_on in
      let reads : (x : Spanned) → Denotes x a → (y : Spanned) × Postfixed text x (Tree r p q inner o.trees) y × Denotes y b = λ x h.
      let (y, m, k) = o.reads (around text q f x) (one_says _ f h) in (y, more says m, k) in
      record {
        begin = _;
        skip = stays c t p solid;
        from_start = record { end = o.end; trees = _; does = rep d o.does; place = o.place; after = o.after; reads = reads; flawless = flawless_both text flawless o.flawless };
        going_on = record { end = o.end; trees = _; does = turn (stays c t p solid) d o.does; place = o.place; after = o.after; reads = reads; flawless = flawless_both text flawless o.flawless };
      }

  -- a node without a predicate before it
  pub no_signs : {p : ℕ} {t : Text} {b : Expression} {K : Text} → NodeAt text p t b K → TermAt text p t b K
  no_signs {p} {t} n =
      let s = term_begins n.starts in
      record {
        starts = s;
        node_place = p;
        node_text = t;
        signs = None';
        from_start = rep_none (no_sign n.starts p);
        going_on = turn_none (stays_at s p) (no_sign n.starts p);
        solid = stays_at s p;
        node_end = n.node_end;
        node_trees = n.node_trees;
        node = n.node;
        begin = n.begin;
        skip = n.skip;
        end = n.end;
        trees = n.trees;
        loop = n.loop;
        place = n.place;
        after = n.after;
        said = n.said;
        reads = n.reads;
        says = n.says;
        flawless = n.flawless;
      }

  positive_sign : (t : Text) (p : ℕ) → Calls is.prefix_operator (at p (38 ∷ t)) (Success (at (p + 1) t) (Tree (codes "positive_predicate_operator") p (p + 1) None' None'))
  unfolding whitespace comment
  positive_sign t p = call is.prefix_operator refl (left (call is.positive_predicate_operator refl str))

  negative_sign : (t : Text) (p : ℕ) → Calls is.prefix_operator (at p (33 ∷ t)) (Success (at (p + 1) t) (Tree (codes "negative_predicate_operator") p (p + 1) None' None'))
  unfolding whitespace comment
  negative_sign t p = call is.prefix_operator refl (right (call is.positive_predicate_operator refl str) (call is.negative_predicate_operator refl str))

  pub positive : {p : ℕ} {t : Text} {e : Expression} {K : Text} → TermAt text (p + 1) t e K → TermAt text p (38 ∷ t) (PosPred e) K
  unfolding own_flaw
  positive {p} {t} n =
      record {
        starts = term_start 38 t refl refl refl;
        node_place = n.node_place;
        node_text = n.node_text;
        signs = Lone (codes "positive_predicate_operator") p (p + 1) n.signs;
        from_start = rep (positive_sign t p) n.going_on;
        going_on = turn (stays 38 t p refl) (positive_sign t p) n.going_on;
        solid = n.solid;
        node_end = n.node_end;
        node_trees = n.node_trees;
        node = n.node;
        begin = n.begin;
        skip = n.skip;
        end = n.end;
        trees = n.trees;
        loop = n.loop;
        place = n.place;
        after = n.after;
        said = One (piece text p (end_of n.said)) spanned.PosPred n.said;
        reads = pos_pred n.reads;
        says = one_says _ spanned.PosPred n.says;
        flawless = flawless_tree text (λ vs. refl) (flawless_none text) n.flawless;
      }

  pub negative : {p : ℕ} {t : Text} {e : Expression} {K : Text} → TermAt text (p + 1) t e K → TermAt text p (33 ∷ t) (NegPred e) K
  unfolding own_flaw
  negative {p} {t} n =
      record {
        starts = term_start 33 t refl refl refl;
        node_place = n.node_place;
        node_text = n.node_text;
        signs = Lone (codes "negative_predicate_operator") p (p + 1) n.signs;
        from_start = rep (negative_sign t p) n.going_on;
        going_on = turn (stays 33 t p refl) (negative_sign t p) n.going_on;
        solid = n.solid;
        node_end = n.node_end;
        node_trees = n.node_trees;
        node = n.node;
        begin = n.begin;
        skip = n.skip;
        end = n.end;
        trees = n.trees;
        loop = n.loop;
        place = n.place;
        after = n.after;
        said = One (piece text p (end_of n.said)) spanned.NegPred n.said;
        reads = neg_pred n.reads;
        says = one_says _ spanned.NegPred n.says;
        flawless = flawless_tree text (λ vs. refl) (flawless_none text) n.flawless;
      }

  pub as_term : {p : ℕ} {t : Text} {e : Expression} {K : Text} → TermAt text p t e K → TermCall text p t e K
  unfolding whitespace comment own_flaw
  as_term {p} {t} n =
      record {
        starts = n.starts;
        end = n.end;
        inner = joined (joined n.signs n.node_trees) n.trees;
        does = call is.term refl (seq (seq (seq (opt_none (no_tag n.starts p)) (stays_at n.starts p) n.from_start) n.solid n.node) n.skip n.loop);
        place = n.place;
        after = n.after;
        said = n.said;
        reads = n.reads;
        says = n.says;
        flawless = flawless_tree text (λ vs. refl) n.flawless (flawless_none text);
      }

  -- a sign, a blank and a term
  infix_sign : (l : Link) (t : Text) (p : ℕ) → Calls is.infix_operator (at p (sign l ∷ t)) (Success (at (p + 1) t) (Tree (sign_name l) p (p + 1) None' None'))
  unfolding whitespace comment
  infix_sign Tilde t p = call is.infix_operator refl (left (call is.sequence_operator refl str))
  infix_sign Bar t p = call is.infix_operator refl (right (call is.sequence_operator refl str) (call is.choice_operator refl str))

  sign_flawless : (l : Link) (p : ℕ) → IsFlawless text (Tree (sign_name l) p (p + 1) None' None')
  unfolding own_flaw
  sign_flawless Tilde p = flawless_tree text (λ vs. refl) (flawless_none text) (flawless_none text)
  sign_flawless Bar p = flawless_tree text (λ vs. refl) (flawless_none text) (flawless_none text)

  -- one more term behind what is read
  read_on : (l : Link) (i j k m : ℕ) (us inner : Trees) (x y : Spanned) (a b : Expression) → Reads text (category l) us x → Denotes x a → Reads text ATerm inner y → Denotes y b
      → (z : Spanned) × Reads text (category l) (joined us (Lone (sign_name l) i j (Tree (codes "term") k m inner None'))) z × Denotes z (joined_by l a b)
  read_on Tilde i j k m us inner x y a b r h s g = (both text spanned.Seq x y, sequence i j k m r s, link_says Tilde h g)
  read_on Bar i j k m us inner x y a b r h s g = (both text spanned.Choice x y, choice i j r (one_term s), link_says Bar h g)

  read_first : (l : Link) (k m : ℕ) (inner : Trees) (x : Spanned) → Reads text ATerm inner x → Reads text (category l) (Tree (codes "term") k m inner None') x
  read_first Tilde k m inner x r = one_term r
  read_first Bar k m inner x r = one_alternative (one_term r)

  read_all : (l : Link) (us : Trees) (x : Spanned) → Reads text (category l) us x → Reads text AnExpression us x
  read_all Tilde us x r = unbarred (one_alternative r)
  read_all Bar us x r = unbarred r

  pub last_term : (l : Link) (p : ℕ) (t : Text) (e : Expression) (K₀ K : Text) → MayFollowExpression K₀ K → TermCall text (p + 1 + 1) t e K → ChainAt text l p (sign l ∷ 32 ∷ t) e K
  last_term l p t e K₀ K c n =
      record {
        middle = n.end;
        first_trees = Lone (sign_name l) p (p + 1) (Tree (codes "term") (p + 1 + 1) n.end.position n.inner None');
        first = seq (infix_sign l (32 ∷ t) p) (blank_at n.starts (p + 1)) n.does;
        end = n.end;
        trees = None';
        others = turn_none n.after (seq_first (ends_chain c n.place));
        place = n.place;
        after = n.after;
        reads = λ a us x r h. read_on l p (p + 1) (p + 1 + 1) n.end.position us n.inner x n.said a e r h n.reads n.says;
        flawless = flawless_both text (sign_flawless l p) n.flawless;
      }

  pub more_terms : (l : Link) (p : ℕ) (t : Text) (a b : Expression) (u K : Text) (n : TermCall text (p + 1 + 1) t a u) → ChainAt text l n.place u b K → ChainAt text l p (sign l ∷ 32 ∷ t) (joined_by l a b) K
  more_terms l p t a b u K n c =
      let first_trees : Trees = Lone (sign_name l) p (p + 1) (Tree (codes "term") (p + 1 + 1) n.end.position n.inner None') in
      let trees : Trees = joined c.first_trees c.trees in
      record {
        middle = n.end;
        first_trees = first_trees;
        first = seq (infix_sign l (32 ∷ t) p) (blank_at n.starts (p + 1)) n.does;
        end = c.end;
        trees = trees;
        others = turn n.after c.first c.others;
        place = c.place;
        after = c.after;
        reads = λ e us x r h.
            let (y, s, i) = read_on l p (p + 1) (p + 1 + 1) n.end.position us n.inner x n.said e a r h n.reads n.says in
            let (z, q, j) = c.reads (joined_by l e a) (joined us first_trees) y s i in
            (z, subst (λ vs. Reads text (category l) vs z) (joined_assoc us first_trees trees) q, record { same = j.same ∙ link-assoc l e a b });
        flawless = flawless_both text (flawless_both text (sign_flawless l p) n.flawless) c.flawless;
      }

  -- an expression of one term, and of several
  pub lone : (p : ℕ) (t : Text) (e : Expression) (K₀ K : Text) → MayFollowExpression K₀ K → TermCall text p t e K → ExpressionAt text p t e K
  unfolding whitespace comment own_flaw
  lone p t e K₀ K c n =
      record {
        starts = expression_begins n.starts;
        end = at n.place K;
        inner = Tree (codes "term") p n.end.position n.inner None';
        does = call is.expression refl (seq (seq (opt_none (no_bar n.starts p)) (stays_at n.starts p) n.does) n.after (rep_none (seq_first (ends_chain c n.place))));
        place = n.place;
        after = closed_stays c n.place;
        said = n.said;
        reads = unbarred (one_alternative (one_term n.reads));
        says = n.says;
        flawless = flawless_tree text (λ vs. refl) n.flawless (flawless_none text);
      }

  pub chained : (l : Link) (p : ℕ) (t : Text) (a b : Expression) (u K : Text) (n : TermCall text p t a u) → ChainAt text l n.place u b K → ExpressionAt text p t (joined_by l a b) K
  unfolding whitespace comment own_flaw
  chained l p t a b u K n c =
      let first : Trees = Tree (codes "term") p n.end.position n.inner None' in
      let (y, r, h) = c.reads a first n.said (read_first l p n.end.position n.inner n.said n.reads) n.says in
      record {
        starts = expression_begins n.starts;
        end = c.end;
        inner = joined first (joined c.first_trees c.trees);
        does = call is.expression refl (seq (seq (opt_none (no_bar n.starts p)) (stays_at n.starts p) n.does) n.after (rep c.first c.others));
        place = c.place;
        after = c.after;
        said = y;
        reads = read_all l _ y r;
        says = h;
        flawless = flawless_tree text (λ vs. refl) (flawless_both text n.flawless c.flawless) (flawless_none text);
      }

  -- a tag and what it is on
  pub assigns : (t : Text) (p : ℕ) → Calls is.assignment_operator (at p (61 ∷ t)) (Success (at (p + 1) t) (Tree (codes "assignment_operator") p (p + 1) None' None'))
  unfolding whitespace comment
  assigns t p = call is.assignment_operator refl str

  pub tagged_term : (p q : ℕ) (tag t u : Text) (e : Expression) (K₀ K : Text) → MayFollowExpression K₀ K
      → Calls is.tag_id (at p (35 ∷ u)) (Success (at q (32 ∷ 61 ∷ 32 ∷ t)) (Tree (codes "tag_id") p q None' None')) → tag_name text p q ≡ tag
      → TermAt text (q + 1 + 1 + 1) t e K → ExpressionAt text p (35 ∷ u) (NodeTag e tag) K
  unfolding whitespace comment own_flaw
  tagged_term p q tag t u e K₀ K c d is_named n =
      let inner : Trees = Lone (codes "tag_id") p q (Lone (codes "assignment_operator") (q + 1) (q + 1 + 1) (joined (joined n.signs n.node_trees) n.trees)) in
      let begins : Calls is.node_tag (at p (35 ∷ u)) (Success (at (q + 1 + 1) (32 ∷ t)) (Lone (codes "tag_id") p q (Lone (codes "assignment_operator") (q + 1) (q + 1 + 1) None'))) =
      call is.node_tag refl (seq d (one_blank 61 (32 ∷ t) q refl) (assigns (32 ∷ t) (q + 1))) in
      let does : Calls is.term (at p (35 ∷ u)) (Success n.end (Tree (codes "term") p n.end.position inner None')) =
      call is.term refl (seq (seq (seq (opt begins) (blank_at n.starts (q + 1 + 1)) n.from_start) n.solid n.node) n.skip n.loop) in
      record {
        starts = expression_start 35 u refl;
        end = at n.place K;
        inner = Tree (codes "term") p n.end.position inner None';
        does = call is.expression refl (seq (seq (opt_none (fails is.choice_operator 35 u p refl)) (stays 35 u p refl) does) n.after (rep_none (seq_first (ends_chain c n.place))));
        place = n.place;
        after = closed_stays c n.place;
        said = One (piece text p (end_of n.said)) (spanned.Tag (tag_name text p q)) n.said;
        reads = unbarred (one_alternative (one_term (tagged n.reads)));
        says = subst (λ name. Denotes (One (piece text p (end_of n.said)) (spanned.Tag (tag_name text p q)) n.said) (NodeTag e name)) is_named (one_says _ (spanned.Tag (tag_name text p q)) n.says);
        flawless = flawless_tree text (λ vs. refl)
            (flawless_tree text (λ vs. refl) (flawless_tree text (λ vs. refl) (flawless_none text) (flawless_tree text (λ vs. refl) (flawless_none text) n.flawless)) (flawless_none text))
            (flawless_none text);
      }

  -- an expression in parentheses
  pub opening : (t : Text) (p : ℕ) → Calls is.opening_paren (at p (40 ∷ t)) (Success (at (p + 1) t) (Tree (codes "opening_paren") p (p + 1) None' None'))
  unfolding whitespace comment
  opening t p = call is.opening_paren refl str

  pub closing : (t : Text) (p : ℕ) → Calls is.closing_paren (at p (41 ∷ t)) (Success (at (p + 1) t) (Tree (codes "closing_paren") p (p + 1) None' None'))
  unfolding whitespace comment
  closing t p = call is.closing_paren refl str

  pub in_parentheses : (p : ℕ) (t : Text) (e b : Expression) (K₀ K : Text) → IsLeftAt text p (40 ∷ t) → ExpressionAt text (p + 1) t e (41 ∷ K₀)
      → ((q : ℕ) → IsLeftAt text q K₀ → OperatorsAt text q K₀ e b K) → NodeAt text p (40 ∷ t) b K
  unfolding whitespace comment own_flaw
  in_parentheses p t e b K₀ K h x loop =
      let d : Calls is.node (at p (40 ∷ t)) (Success (at (x.place + 1) K₀) (Lone (codes "opening_paren") p (p + 1) (Tree (codes "expression") (p + 1) x.end.position x.inner (Lone (codes "closing_paren") x.place (x.place + 1) None')))) =
      call is.node refl (left (seq (seq (opening t p) (expression_stays x.starts (p + 1)) x.does) x.after (closing K₀ x.place))) in
      let l = loop (x.place + 1) (still_left text d h) in
      let o = l.from_start in
      let (y, r, s) = o.reads (ending (x.place + 1) x.said) (ending_says (x.place + 1) x.says) in
      record {
        starts = node_start 40 t refl refl refl refl;
        node_end = _;
        node_trees = _;
        node = d;
        begin = l.begin;
        skip = l.skip;
        end = o.end;
        trees = o.trees;
        loop = o.does;
        place = o.place;
        after = o.after;
        said = starting p y;
        reads = grouped x.reads r;
        says = starting_says p s;
        flawless =
            flawless_tree text (λ vs. refl) (flawless_none text)
            (flawless_both text x.flawless (flawless_tree text (λ vs. refl) (flawless_none text) o.flawless));
      }

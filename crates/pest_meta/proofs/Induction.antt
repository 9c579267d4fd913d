-- Every writable expression's text is matched and read back, whatever stands behind it.
use Rattle.std.proofs.Common.{◌≡◌, refl, ap, true, ℕ, ◌+◌, List, [], ◌∷◌, ◌++◌, false, codes}
use Rattle.std.specs.Str.{chars, IsUtf8}
use Rattle.base_language.specs.Language.Text.{Text}
use Rattle.base_language.specs.Language.Expression.{Expression, Str, Insens, Range, Ident, PeekSlice, PosPred, NegPred, Seq, Choice, Opt, Rep, RepOnce, RepExact, RepMin, RepMax, RepMinMax, Skip, Push, RestoreOnErr, PushLiteral, NodeTag}
use Rattle.base_language.specs.Language.State.{NonAtomicMode}
use Rattle.base_language.specs.Language.Meaning.{Run}
use Rattle.base_language.specs.Language.Expression as bare
use Rattle.base_language.proofs.TreesAreNested.{fits}
use Rattle.base_ast.specs.Printing.{Place, Alone, AfterTilde, AfterBar, BeforePostfix}
use Rattle.pest_meta.specs.ReadsBack.{IsWritable, is_tag}
use Rattle.pest_meta.proofs.PrintedBefore.{printed_before, tagged_before}
use Rattle.pest_meta.proofs.Deriving.{str}
use Rattle.pest_meta.proofs.Parts.{Link, Tilde, Bar, sign, joined_by, MayFollowTerm, tilde, bar, by_paren, behind, no_operator, IsLeftAt, still_left, TermCall, IsNodeText, IsTermText, AreTermsText, IsExpressionText}
use Rattle.pest_meta.proofs.Assembly.{no_signs, no_operators, as_term, last_term, more_terms, lone, chained, in_parentheses, tagged_term, positive, negative}
use Rattle.pest_meta.proofs.Nodes.{push_node}
use Rattle.pest_meta.proofs.Operators.{opt_text, rep_text, rep_once_text, exact_text, min_text, max_text, min_max_text}
use Rattle.pest_meta.proofs.Names.{name_text, following}
use Rattle.pest_meta.proofs.Slices.{slice_text}
use Rattle.pest_meta.proofs.Literals.{string_text, insensitive_text, push_literal_text, range_text}
use Rattle.pest_meta.proofs.Tags.{tag_does}
use Rattle.pest_meta.proofs.WrittenBetween.{written_is}
use Rattle.front_reader.specs.Reading.{behind_first, tag_name}

abbrev after : Link → Place
after Tilde = AfterTilde
after Bar = AfterBar

module _ (text : List ℕ) (utf8 : IsUtf8 text) where
  -- behind one character of one byte
  here_paren : (t : Text) (p : ℕ) → IsLeftAt text p (40 ∷ t) → IsLeftAt text (p + 1) t
  here_paren t p h = still_left text {k = Run NonAtomicMode (bare.Str (40 ∷ []))} str h

  here_and : (t : Text) (p : ℕ) → IsLeftAt text p (38 ∷ t) → IsLeftAt text (p + 1) t
  here_and t p h = still_left text {k = Run NonAtomicMode (bare.Str (38 ∷ []))} str h

  here_not : (t : Text) (p : ℕ) → IsLeftAt text p (33 ∷ t) → IsLeftAt text (p + 1) t
  here_not t p h = still_left text {k = Run NonAtomicMode (bare.Str (33 ∷ []))} str h

  here_push : (t : Text) (p : ℕ) → IsLeftAt text p (80 ∷ 85 ∷ 83 ∷ 72 ∷ 40 ∷ t) → IsLeftAt text (p + 4 + 1) t
  here_push t p h = here_paren t (p + 4) (still_left text {k = Run NonAtomicMode (bare.Str (codes "PUSH"))} str h)

  here_linked : (l : Link) (t : Text) (p : ℕ) → IsLeftAt text p (sign l ∷ 32 ∷ t) → IsLeftAt text (p + 1 + 1) t
  here_linked Tilde t p h = still_left text {k = Run NonAtomicMode (bare.Str (32 ∷ []))} str (still_left text {k = Run NonAtomicMode (bare.Str (126 ∷ []))} {q = p + 1} {K = 32 ∷ t} str h)
  here_linked Bar t p h = still_left text {k = Run NonAtomicMode (bare.Str (32 ∷ []))} str (still_left text {k = Run NonAtomicMode (bare.Str (124 ∷ []))} {q = p + 1} {K = 32 ∷ t} str h)

  here_behind : {p : ℕ} {t : Text} {e : Expression} {K : Text} → IsLeftAt text p t → (n : TermCall text p t e K) → IsLeftAt text n.place K
  here_behind h n = still_left text n.after (fits (chars text) (n.does (λ m c. false)) h).0

  behind_link : (l : Link) (K : Text) → MayFollowTerm (32 ∷ sign l ∷ 32 ∷ K) (sign l ∷ 32 ∷ K)
  behind_link Tilde K = tilde K
  behind_link Bar K = bar K

  -- from a node's text to a term's, to the last of a terms, to an expression's
  term_text : (F : Text → Text) (e : Expression) → IsNodeText text F e → IsTermText text F e
  term_text F e node p K₀ K h b = no_signs text (node p e K₀ K h (no_operator b) (λ q i. no_operators text e b q))

  last_text : (l : Link) (F : Text → Text) (e : Expression) → IsTermText text F e → AreTermsText text l F e
  last_text l F e term p K₀ K h c = last_term text l p (F K₀) e K₀ K c (as_term text (term (p + 1 + 1) K₀ K (here_linked l (F K₀) p h) (behind c)))

  one_text : (F : Text → Text) (e : Expression) → IsTermText text F e → IsExpressionText text F e
  one_text F e term p K₀ K h c = lone text p (F K₀) e K₀ K c (as_term text (term p K₀ K h (behind c)))

  chain_text : (l : Link) (F G : Text → Text) (a b : Expression) → IsTermText text F a → AreTermsText text l G b
      → AreTermsText text l (λ K. F (32 ∷ sign l ∷ 32 ∷ G K)) (joined_by l a b)
  chain_text l F G a b term terms p K₀ K h c =
      let t : Text = F (32 ∷ sign l ∷ 32 ∷ G K₀) in
      let i = here_linked l t p h in
      let n = as_term text (term (p + 1 + 1) (32 ∷ sign l ∷ 32 ∷ G K₀) (sign l ∷ 32 ∷ G K₀) i (behind_link l (G K₀))) in
      more_terms text l p t a b (sign l ∷ 32 ∷ G K₀) K n (terms n.place K₀ K (here_behind i n) c)

  chained_text : (l : Link) (F G : Text → Text) (a b : Expression) → IsTermText text F a → AreTermsText text l G b
      → IsExpressionText text (λ K. F (32 ∷ sign l ∷ 32 ∷ G K)) (joined_by l a b)
  chained_text l F G a b term terms p K₀ K h c =
      let n = as_term text (term p (32 ∷ sign l ∷ 32 ∷ G K₀) (sign l ∷ 32 ∷ G K₀) h (behind_link l (G K₀))) in
      chained text l p (F (32 ∷ sign l ∷ 32 ∷ G K₀)) a b (sign l ∷ 32 ∷ G K₀) K n (terms n.place K₀ K (here_behind h n) c)

  grouped_text : (F : Text → Text) (e : Expression) → IsExpressionText text F e → IsNodeText text (λ K. 40 ∷ F (41 ∷ K)) e
  grouped_text F e expression p b K₀ K h f loop =
      in_parentheses text p (F (41 ∷ K₀)) e b K₀ K h (expression (p + 1) (41 ∷ K₀) (41 ∷ K₀) (here_paren (F (41 ∷ K₀)) p h) (by_paren K₀)) loop

  push_text : (F : Text → Text) (e : Expression) → IsExpressionText text F e → IsNodeText text (λ K. codes "PUSH(" ++ F (41 ∷ K)) (Push e)
  push_text F e expression p b K₀ K h f loop =
      push_node text p (F (41 ∷ K₀)) e b K₀ K h (expression (p + 4 + 1) (41 ∷ K₀) (41 ∷ K₀) (here_push (F (41 ∷ K₀)) p h) (by_paren K₀)) loop

  tagged_text : (t : Text) (F : Text → Text) (e : Expression) → is_tag t ≡ true → IsTermText text F e → IsExpressionText text (λ K. tagged_before t F K) (NodeTag e t)
  tagged_text [] F e h term p K₀ K here k = cc
  tagged_text (c ∷ w) F e h term p K₀ K here k =
      let M : Text = 32 ∷ 61 ∷ 32 ∷ F K₀ in
      let (q, d) = tag_does c w M h (following 32 (61 ∷ 32 ∷ F K₀) refl) p in
      let left : IsLeftAt text q M = still_left text d here in
      let named : tag_name text p q ≡ c ∷ w = ap behind_first (written_is text utf8 p q (35 ∷ c ∷ w) M here left) in
      let equals : IsLeftAt text (q + 1) (61 ∷ 32 ∷ F K₀) = still_left text {k = Run NonAtomicMode (bare.Str (32 ∷ []))} str left in
      let blank : IsLeftAt text (q + 1 + 1) (32 ∷ F K₀) = still_left text {k = Run NonAtomicMode (bare.Str (61 ∷ []))} str equals in
      let there : IsLeftAt text (q + 1 + 1 + 1) (F K₀) = still_left text {k = Run NonAtomicMode (bare.Str (32 ∷ []))} str blank in
      tagged_term text p q (c ∷ w) (F K₀) (c ∷ (w ++ M)) e K₀ K k d named (term (q + 1 + 1 + 1) K₀ K there (behind k))

  positive_text : (F : Text → Text) (e : Expression) → IsTermText text F e → IsTermText text (λ K. 38 ∷ F K) (PosPred e)
  positive_text F e term p K₀ K h b = positive text (term (p + 1) K₀ K (here_and (F K₀) p h) b)

  negative_text : (F : Text → Text) (e : Expression) → IsTermText text F e → IsTermText text (λ K. 33 ∷ F K) (NegPred e)
  negative_text F e term p K₀ K h b = negative text (term (p + 1) K₀ K (here_not (F K₀) p h) b)

  -- what holds of an expression's four texts
  record IsReadAtPlaces (B A T C : Text → Text) (e : Expression) : Type 0 where
    node : IsNodeText text B e
    term : IsTermText text A e
    tilde : AreTermsText text Tilde T e
    bar : AreTermsText text Bar C e

  abbrev IsReadEverywhere : Expression → Type 0
  IsReadEverywhere e = IsReadAtPlaces (λ K. printed_before BeforePostfix e K) (λ K. printed_before Alone e K) (λ K. printed_before AfterTilde e K) (λ K. printed_before AfterBar e K) e

  -- one text at all places; a predicate's; and what has parentheses unless it goes on a terms
  everywhere : (F : Text → Text) (e : Expression) → IsNodeText text F e → IsReadAtPlaces F F F F e
  everywhere F e n =
      let t = term_text F e n in
      record { node = n; term = t; tilde = last_text Tilde F e t; bar = last_text Bar F e t }

  of_predicate : (F : Text → Text) (e : Expression) → IsTermText text F e → IsReadAtPlaces (λ K. 40 ∷ F (41 ∷ K)) F F F e
  of_predicate F e t = record { node = grouped_text F e (one_text F e t); term = t; tilde = last_text Tilde F e t; bar = last_text Bar F e t }

  of_sequence : (F G : Text → Text) (a b : Expression) → IsTermText text F a → AreTermsText text Tilde G b
      → IsReadAtPlaces (λ K. 40 ∷ F (32 ∷ 126 ∷ 32 ∷ G (41 ∷ K))) (λ K. 40 ∷ F (32 ∷ 126 ∷ 32 ∷ G (41 ∷ K))) (λ K. F (32 ∷ 126 ∷ 32 ∷ G K)) (λ K. 40 ∷ F (32 ∷ 126 ∷ 32 ∷ G (41 ∷ K))) (Seq a b)
  of_sequence F G a b x y =
      let P : Text → Text = λ K. 40 ∷ F (32 ∷ 126 ∷ 32 ∷ G (41 ∷ K)) in
      let n : IsNodeText text P (Seq a b) = grouped_text (λ K. F (32 ∷ 126 ∷ 32 ∷ G K)) (Seq a b) (chained_text Tilde F G a b x y) in
      let t = term_text P (Seq a b) n in
      record { node = n; term = t; tilde = chain_text Tilde F G a b x y; bar = last_text Bar P (Seq a b) t }

  of_choice : (F G : Text → Text) (a b : Expression) → IsTermText text F a → AreTermsText text Bar G b
      → IsReadAtPlaces (λ K. 40 ∷ F (32 ∷ 124 ∷ 32 ∷ G (41 ∷ K))) (λ K. 40 ∷ F (32 ∷ 124 ∷ 32 ∷ G (41 ∷ K))) (λ K. 40 ∷ F (32 ∷ 124 ∷ 32 ∷ G (41 ∷ K))) (λ K. F (32 ∷ 124 ∷ 32 ∷ G K)) (Choice a b)
  of_choice F G a b x y =
      let P : Text → Text = λ K. 40 ∷ F (32 ∷ 124 ∷ 32 ∷ G (41 ∷ K)) in
      let n : IsNodeText text P (Choice a b) = grouped_text (λ K. F (32 ∷ 124 ∷ 32 ∷ G K)) (Choice a b) (chained_text Bar F G a b x y) in
      let t = term_text P (Choice a b) n in
      record { node = n; term = t; tilde = last_text Tilde P (Choice a b) t; bar = chain_text Bar F G a b x y }

  is_read : (e : Expression) → IsWritable e → IsReadEverywhere e
  is_read (Str t) h = everywhere _ _ (string_text text utf8 t h)
  is_read (Insens t) h = everywhere _ _ (insensitive_text text utf8 t h)
  is_read (Range t u) h = everywhere _ _ (grouped_text _ _ (one_text _ _ (term_text _ _ (range_text text utf8 t u h.0 h.1 h.2 h.3))))
  is_read (Ident n) h = everywhere _ _ (name_text text utf8 n h)
  is_read (PeekSlice i j) h = everywhere _ _ (slice_text text utf8 i j h.0 h.1)
  is_read (PosPred e) h = of_predicate _ _ (positive_text _ e (is_read e h).term)
  is_read (NegPred e) h = of_predicate _ _ (negative_text _ e (is_read e h).term)
  is_read (Seq a b) h = of_sequence _ _ a b (is_read a h.0).term (is_read b h.1).tilde
  is_read (Choice a b) h = of_choice _ _ a b (is_read a h.0).term (is_read b h.1).bar
  is_read (Opt e) h = everywhere _ _ (opt_text text utf8 _ e (is_read e h).node)
  is_read (Rep e) h = everywhere _ _ (rep_text text utf8 _ e (is_read e h).node)
  is_read (RepOnce e) h = everywhere _ _ (rep_once_text text utf8 _ e (is_read e h).node)
  is_read (RepExact e i) h = everywhere _ _ (exact_text text utf8 _ e i h.1 h.2 (is_read e h.0).node)
  is_read (RepMin e i) h = everywhere _ _ (min_text text utf8 _ e i h.1 (is_read e h.0).node)
  is_read (RepMax e i) h = everywhere _ _ (max_text text utf8 _ e i h.1 h.2 (is_read e h.0).node)
  is_read (RepMinMax e i j) h = everywhere _ _ (min_max_text text utf8 _ e i j h.1 h.2 h.3 (is_read e h.0).node)
  is_read (Skip ts) h = absurd h
  is_read (Push e) h = everywhere _ _ (push_text _ e (one_text _ e (is_read e h).term))
  is_read (PushLiteral t) h = everywhere _ _ (push_literal_text text utf8 t h)
  is_read (NodeTag e t) h = everywhere _ _ (grouped_text _ _ (tagged_text t _ e h.0 (is_read e h.1).term))
  is_read (RestoreOnErr e) h = absurd h

  pub whole_text : (e : Expression) → IsWritable e → IsExpressionText text (λ K. printed_before Alone e K) e
  whole_text e h = one_text _ e (is_read e h).term

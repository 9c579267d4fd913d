-- Strings, strings of either case, and ranges.
use Rattle.std.proofs.Common.{◌≡◌, refl, sym, ◌∙◌, ap, ap₂, subst, ℕ, ◌+◌, List, [], ◌∷◌, ◌++◌, true, false, not, inl, inr, nat_eq, codes, length, eq-eqb, arith, None, le-ltb, le-leb, lt-ltb, append-nil}
use Rattle.std.specs.List.{flat_map}
use Rattle.std.specs.Str.{IsUtf8, all_scalars}
use Rattle.std.proofs.Math.Utf8.{scalar, low_scalar}
use Rattle.std.proofs.lemmas.List.Elements.{All-head, All-tail}
use Rattle.base_language.specs.Language.Text.{Text, IsText, IsScalarValue}
use Rattle.base_language.specs.Language.Expression as bare
use Rattle.base_language.specs.Language.Expression.{Expression, Str, Insens, Range, Rep, Opt, NegPred, PushLiteral, whitespace, comment}
use Rattle.base_language.specs.Language.State.{State, NonAtomicMode, AtomicMode, CompoundAtomicMode, None', Tree, Trees, Success, Failure}
use Rattle.base_ast.specs.Printing.{escaped}
use Rattle.base_language.specs.Language.Meaning.{Run, Turns}
use Rattle.base_language.specs.declared.grammar.Rule.TheVariants as is
use Rattle.front_grammar.specs.MetaGrammar.{rule, ◌or◌, ◌~◌, any, double_quote, backslash}
use Rattle.front_grammar.specs.Shape.{Lone}
use Rattle.front_grammar.proofs.FirstCharacters.{may_begin}
use Rattle.pest_meta.specs.ReadsBack.{is_name_start}
use Rattle.front_grammar.proofs.Names.{ran_any}
use Rattle.front_reader.specs.Reading.{leaf, literally_pushed, string, insensitive, range, literal_value}
use Rattle.front_reader.specs.Flaws.{own_flaw, wrong_literal, flaw_if, NoScalarValue}
use Rattle.front_reader.specs.Literal.{unescaped}
use Rattle.front_reader.proofs.Literals.{unescaped_plain}
use Rattle.pest_meta.proofs.PrintedBefore.{escapes_before, append-escapes, literal_before, range_before}
use Rattle.pest_meta.proofs.Deriving.{at, Gives, Calls, str, call, neg_pred, seq, seq_first, seq_second, left, right, opt, opt_none, rep, rep_none, turn, turn_none, atomic, compound_atomic, stays, fails}
use Rattle.pest_meta.proofs.Parts.{node_start, IsLeftAt, IsFlawless, flawless_none, flawless_tree, still_left, IsNodeText}
use Rattle.pest_meta.proofs.Characters.{past, sign_misses, start_misses}
use Rattle.pest_meta.proofs.Escapes.{CharacterForm, as_itself, by_escape, form_in_double, form_in_single}
use Rattle.pest_meta.proofs.WrittenBetween.{written_is}
use Rattle.pest_meta.proofs.Nodes.{node_with, as_node}
use Rattle.pest_meta.proofs.Assembly.{opening, closing}

-- what is escaped is unescaped
unescaped_form : (q c : ℕ) (w T : Text) → CharacterForm q c w → unescaped (w ++ T) ≡ c ∷ unescaped T
unescaped_form q c w T (as_itself e i j) = rw e (unescaped_plain c T (λ h. let k = eq-eqb 92 c (sym h) in cc))
unescaped_form q c w T (by_escape v e d value) = rw e (value T)

unescaped_all : (q : ℕ) → ((c : ℕ) → CharacterForm q c (escaped q c)) → (t : Text) → unescaped (flat_map (escaped q) t) ≡ t
unescaped_all q form [] = refl
unescaped_all q form (c ∷ t) = unescaped_form q c (escaped q c) (flat_map (escaped q) t) (form c) ∙ ap (λ x. c ∷ x) (unescaped_all q form t)

pub is_scalar : (c : ℕ) → IsScalarValue c → scalar c ≡ true
is_scalar c (inl h) = low_scalar c h
is_scalar c (inr h) =
    let a = le-ltb c 55296 (omega (arith, h.0)) in
    let b = le-leb 57344 c (omega (arith, h.0)) in
    let d = lt-ltb c 1114112 h.1 in
    rw (a, b, d) refl

are_scalars : (t : Text) → IsText t → all_scalars t ≡ true
are_scalars [] h = refl
are_scalars (c ∷ t) h = let i = is_scalar c (All-head IsScalarValue c t h) in rw i (are_scalars t (All-tail IsScalarValue c t h))

-- what stands between double quotes
abbrev plain_character : Expression
plain_character = NegPred (Str double_quote or Str backslash) ~ any

abbrev escape_and_more : Expression
escape_and_more = Opt (rule is.escape ~ rule is.inner_str)

any_takes : (c : ℕ) (K : Text) (p : ℕ) → Gives (Run AtomicMode any) (at p (c ∷ K)) (Success (at (past p c) K) None')
any_takes c K p = λ z. (ran_any {classes = z} {p = 0} refl).found

record Inside (p : ℕ) (T K : Text) : Type 0 where
  pub middle : State
  pub turns : Gives (Turns AtomicMode plain_character) (at p T) (Success middle None')
  pub loop : Gives (Run AtomicMode (Rep plain_character)) (at p T) (Success middle None')
  pub place : ℕ
  pub more : Gives (Run AtomicMode escape_and_more) middle (Success (at place (34 ∷ K)) None')

inside_one : (c : ℕ) (w T K : Text) (p : ℕ) → CharacterForm 34 c w → ((k : ℕ) → Inside k T K) → Inside p (w ++ T) K
unfolding whitespace comment
inside_one c w T K p (as_itself e i j) others =
    let n = others (past p c) in
    let d : Gives (Run AtomicMode plain_character) (at p (c ∷ T)) (Success (at (past p c) T) None') = seq (neg_pred (right (sign_misses 34 [] c T p i) (sign_misses 92 [] c T p j))) atomic (any_takes c T p) in
    let r : Inside p (c ∷ T) K = record { middle = n.middle; turns = turn atomic d n.turns; loop = rep d n.turns; place = n.place; more = n.more } in
    subst (λ x. Inside p (x ++ T) K) (sym e) r
inside_one c w T K p (by_escape v e does value) others =
    let (q, d) = does T p in
    let n = others q in
    let stop : Gives (Run AtomicMode plain_character) (at p (92 ∷ (v ++ T))) Failure = seq_first (neg_pred (right str str)) in
    let r : Inside p (92 ∷ (v ++ T)) K = record { middle = _; turns = turn_none atomic stop; loop = rep_none stop; place = n.place; more = opt (seq d atomic (call is.inner_str refl (seq n.loop atomic n.more))) } in
    subst (λ x. Inside p (x ++ T) K) (sym e) r

inside : (t K : Text) (p : ℕ) → Inside p (escapes_before 34 t (34 ∷ K)) K
unfolding whitespace comment
inside [] K p =
    let stop : Gives (Run AtomicMode plain_character) (at p (34 ∷ K)) Failure = seq_first (neg_pred (left str)) in
    record { middle = _; turns = turn_none atomic stop; loop = rep_none stop; place = p; more = opt_none (seq_first (call is.escape refl (seq_first str))) }
inside (c ∷ t) K p = inside_one c (escaped 34 c) (escapes_before 34 t (34 ∷ K)) K p (form_in_double c) (inside t K)

-- a string's trees
abbrev string_trees : ℕ → ℕ → Trees
string_trees p e = Lone (codes "quote") p (p + 1) (Lone (codes "inner_str") (p + 1) e (Lone (codes "quote") e (e + 1) None'))

record StringAt (p : ℕ) (t K : Text) : Type 0 where
  pub close : ℕ
  pub inner : Gives (Run CompoundAtomicMode (rule is.inner_str)) (at (p + 1) (escapes_before 34 t (34 ∷ K))) (Success (at close (34 ∷ K)) (Lone (codes "inner_str") (p + 1) close None'))
  pub does : Calls is.string (at p (literal_before t K)) (Success (at (close + 1) K) (Tree (codes "string") p (close + 1) (string_trees p close) None'))

string_at : (t K : Text) (p : ℕ) → StringAt p t K
unfolding whitespace comment
string_at t K p =
    let n = inside t K (p + 1) in
    let d : Gives (Run CompoundAtomicMode (rule is.inner_str)) (at (p + 1) (escapes_before 34 t (34 ∷ K))) (Success (at n.place (34 ∷ K)) (Lone (codes "inner_str") (p + 1) n.place None')) = call is.inner_str refl (seq n.loop atomic n.more) in
    record { close = n.place; inner = d; does = call is.string refl (seq (seq (call is.quote refl str) compound_atomic d) compound_atomic (call is.quote refl str)) }

-- nothing that stands before strings in `terminal`
no_word : (c : ℕ) (K : Text) (p : ℕ) → may_begin is._push c ≡ false → nat_eq 80 c ≡ false → is_name_start c ≡ false → Gives (Run NonAtomicMode (rule is._push_literal or rule is._push or rule is.peek_slice or rule is.identifier)) (at p (c ∷ K)) Failure
unfolding whitespace comment
no_word c K p h i j =
    right (right (right (fails is._push_literal c K p h) (fails is._push c K p h)) (fails is.peek_slice c K p h))
    (call is.identifier refl (seq_first (seq_second (neg_pred (sign_misses 80 (codes "USH") c K p i)) atomic (start_misses c K p j))))

module _ (text : List ℕ) (utf8 : IsUtf8 text) where
  -- what a string's trees stand for
  string_value : (p : ℕ) (t K : Text) (s : StringAt p t K) → IsLeftAt text p (literal_before t K) → literal_value text (string_trees p s.close) ≡ t
  string_value p t K s h =
      let i : IsLeftAt text (p + 1) (escapes_before 34 t (34 ∷ K)) = still_left text {k = Run NonAtomicMode (bare.Str (34 ∷ []))} str h in
      let j : IsLeftAt text s.close (34 ∷ K) = still_left text s.inner i in
      let w : Text = flat_map (escaped 34) t in
      ap unescaped (written_is text utf8 (p + 1) s.close w (34 ∷ K) (subst (λ x. IsLeftAt text (p + 1) x) (sym (append-escapes 34 t (34 ∷ K))) i) j) ∙ unescaped_all 34 form_in_double t

  right_literal : (i j : ℕ) (us : Trees) (t : Text) → literal_value text us ≡ t → IsText t → wrong_literal text i j us ≡ None
  right_literal i j us t e h = ap (λ x. flaw_if text (not (all_scalars x)) NoScalarValue i j) e ∙ ap (λ b. flaw_if text (not b) NoScalarValue i j) (are_scalars t h)

  string_flawless : (p q : ℕ) (us : Trees) (t : Text) → literal_value text us ≡ t → IsText t → IsFlawless text us → IsFlawless text (Tree (codes "string") p q us None')
  unfolding own_flaw
  string_flawless p q us t e h c = flawless_tree text (λ vs. right_literal p q us t e h) c (flawless_none text)

  insensitive_flawless : (p q i j : ℕ) (us : Trees) (t : Text) → literal_value text us ≡ t → IsText t → IsFlawless text us → IsFlawless text (Tree (codes "insensitive_string") p q (Tree (codes "string") i j us None') None')
  unfolding own_flaw
  insensitive_flawless p q i j us t e h c = flawless_tree text (λ vs. right_literal p q us t e h) (string_flawless i j us t e h c) (flawless_none text)

  pub character_flawless : (p q : ℕ) (us vs : Trees) (t : Text) → literal_value text us ≡ t → IsText t → IsFlawless text us → IsFlawless text vs → IsFlawless text (Tree (codes "character") p q us vs)
  unfolding own_flaw
  character_flawless p q us vs t e h c d = flawless_tree text (λ ws. right_literal p q us t e h) c d

  string_trees_flawless : (p e : ℕ) → IsFlawless text (string_trees p e)
  unfolding own_flaw
  string_trees_flawless p e = flawless_tree text (λ vs. refl) (flawless_none text) (flawless_tree text (λ vs. refl) (flawless_none text) (flawless_tree text (λ vs. refl) (flawless_none text) (flawless_none text)))

  pub string_text : (t : Text) → IsText t → IsNodeText text (λ K. literal_before t K) (Str t)
  unfolding whitespace comment own_flaw
  string_text t h p b K₀ K here f loop =
      let s = string_at t K₀ p in
      let L : Text = escapes_before 34 t (34 ∷ K₀) in
      let value = string_value p t K₀ s here in
      let node = as_node text 34 L p refl (call is.terminal refl (left (left (right (no_word 34 L p refl refl refl) s.does)))) in
      node_with text p (s.close + 1) (literal_before t K₀) K₀ K _ _ _ (Str t) b (node_start 34 L refl refl refl refl) node (leaf string) (record { same = ap Str value })
      (string_flawless p (s.close + 1) (string_trees p s.close) t value h (string_trees_flawless p s.close)) here loop

  pub insensitive_text : (t : Text) → IsText t → IsNodeText text (λ K. 94 ∷ literal_before t K) (Insens t)
  unfolding whitespace comment own_flaw
  insensitive_text t h p b K₀ K here f loop =
      let s = string_at t K₀ (p + 1) in
      let L : Text = literal_before t K₀ in
      let M : Text = escapes_before 34 t (34 ∷ K₀) in
      let value = string_value (p + 1) t K₀ s (still_left text {k = Run NonAtomicMode (bare.Str (94 ∷ []))} str here) in
      let does : Calls is.insensitive_string (at p (94 ∷ L)) (Success (at (s.close + 1) K₀) (Tree (codes "insensitive_string") p (s.close + 1) (Tree (codes "string") (p + 1) (s.close + 1) (string_trees (p + 1) s.close) None') None')) =
      call is.insensitive_string refl (seq str (stays 34 M (p + 1) refl) s.does) in
      let node = as_node text 94 L p refl (call is.terminal refl (left (right (right (no_word 94 L p refl refl refl) (fails is.string 94 L p refl)) does))) in
      node_with text p (s.close + 1) (94 ∷ L) K₀ K _ _ _ (Insens t) b (node_start 94 L refl refl refl refl) node (leaf insensitive) (record { same = ap Insens value })
      (insensitive_flawless p (s.close + 1) (p + 1) (s.close + 1) (string_trees (p + 1) s.close) t value h (string_trees_flawless (p + 1) s.close)) here loop

-- a literal push
module _ (text : List ℕ) (utf8 : IsUtf8 text) where
  string_before_flawless : (p q : ℕ) (us vs : Trees) (t : Text) → literal_value text us ≡ t → IsText t → IsFlawless text us → IsFlawless text vs → IsFlawless text (Tree (codes "string") p q us vs)
  unfolding own_flaw
  string_before_flawless p q us vs t e h c d = flawless_tree text (λ ws. right_literal text utf8 p q us t e h) c d

  pub push_literal_text : (t : Text) → IsText t → IsNodeText text (λ K. codes "PUSH_LITERAL(" ++ literal_before t (41 ∷ K)) (PushLiteral t)
  unfolding whitespace comment own_flaw
  push_literal_text t h p b K₀ K here f loop =
      let L : Text = literal_before t (41 ∷ K₀) in
      let M : Text = escapes_before 34 t (34 ∷ 41 ∷ K₀) in
      let W : Text = codes "USH_LITERAL(" ++ L in
      let i = p + 12 + 1 in
      let s = string_at t (41 ∷ K₀) i in
      let j = s.close + 1 in
      let behind_word : IsLeftAt text (p + 12) (40 ∷ L) = still_left text {k = Run NonAtomicMode (bare.Str (codes "PUSH_LITERAL"))} str here in
      let inside_at : IsLeftAt text i L = still_left text {k = Run NonAtomicMode (bare.Str (40 ∷ []))} str behind_word in
      let value = string_value text utf8 i t (41 ∷ K₀) s inside_at in
      let inner : Trees = Lone (codes "opening_paren") (p + 12) i (Tree (codes "string") i j (string_trees i s.close) (Lone (codes "closing_paren") j (j + 1) None')) in
      let does : Calls is._push_literal (at p (80 ∷ W)) (Success (at (j + 1) K₀) (Tree (codes "_push_literal") p (j + 1) inner None')) =
      call is._push_literal refl (seq (seq (seq str (stays 40 L (p + 12) refl) (opening text L (p + 12))) (stays 34 M i refl) s.does) (stays 41 K₀ j refl) (closing text K₀ j)) in
      let node = as_node text 80 W p refl (call is.terminal refl (left (left (left (left (left (left does))))))) in
      node_with text p (j + 1) (80 ∷ W) K₀ K _ _ _ (PushLiteral t) b (node_start 80 W refl refl refl refl) node literally_pushed (record { same = ap PushLiteral value })
      (flawless_tree text (λ vs. refl) (flawless_tree text (λ vs. refl) (flawless_none text)
      (string_before_flawless i j (string_trees i s.close) (Lone (codes "closing_paren") j (j + 1) None') t value h (string_trees_flawless text utf8 i s.close)
      (flawless_tree text (λ vs. refl) (flawless_none text) (flawless_none text)))) (flawless_none text)) here loop

-- a bound of a range
abbrev character_trees : ℕ → ℕ → Trees
character_trees p e = Lone (codes "single_quote") p (p + 1) (Lone (codes "inner_chr") (p + 1) e (Lone (codes "single_quote") e (e + 1) None'))

record CharacterAt (p c : ℕ) (K : Text) : Type 0 where
  pub close : ℕ
  pub inner : Gives (Run CompoundAtomicMode (rule is.inner_chr)) (at (p + 1) (escaped 39 c ++ (39 ∷ K))) (Success (at close (39 ∷ K)) (Lone (codes "inner_chr") (p + 1) close None'))
  pub does : Calls is.character (at p (39 ∷ (escaped 39 c ++ (39 ∷ K)))) (Success (at (close + 1) K) (Tree (codes "character") p (close + 1) (character_trees p close) None'))

character_inner : (c : ℕ) (w K : Text) (p : ℕ) → CharacterForm 39 c w → (q : ℕ) × Gives (Run CompoundAtomicMode (rule is.inner_chr)) (at p (w ++ K)) (Success (at q K) (Lone (codes "inner_chr") p q None'))
unfolding whitespace comment
character_inner c w K p (as_itself e i j) = (
  past p c,
  subst (λ x. Gives (Run CompoundAtomicMode (rule is.inner_chr)) (at p (x ++ K)) (Success (at (past p c) K) (Lone (codes "inner_chr") p (past p c) None'))) (sym e)
      (call is.inner_chr refl (right (call is.escape refl (seq_first (sign_misses 92 [] c K p j)))
      (seq (neg_pred (right (sign_misses 39 [] c K p i) (sign_misses 92 [] c K p j))) atomic (any_takes c K p)))),
)
character_inner c w K p (by_escape v e does value) =
    let (q, d) = does K p in
    (q, subst (λ x. Gives (Run CompoundAtomicMode (rule is.inner_chr)) (at p (x ++ K)) (Success (at q K) (Lone (codes "inner_chr") p q None'))) (sym e) (call is.inner_chr refl (left d)))

character_at : (c : ℕ) (K : Text) (p : ℕ) → CharacterAt p c K
unfolding whitespace comment
character_at c K p =
    let (q, d) = character_inner c (escaped 39 c) (39 ∷ K) (p + 1) (form_in_single c) in
    record { close = q; inner = d; does = call is.character refl (seq (seq (call is.single_quote refl str) compound_atomic d) compound_atomic (call is.single_quote refl str)) }

module _ (text : List ℕ) (utf8 : IsUtf8 text) where
  character_value : (p c : ℕ) (K : Text) (s : CharacterAt p c K) → IsLeftAt text p (39 ∷ (escaped 39 c ++ (39 ∷ K))) → literal_value text (character_trees p s.close) ≡ c ∷ []
  character_value p c K s h =
      let i : IsLeftAt text (p + 1) (escaped 39 c ++ (39 ∷ K)) = still_left text {k = Run NonAtomicMode (bare.Str (39 ∷ []))} str h in
      let j : IsLeftAt text s.close (39 ∷ K) = still_left text s.inner i in
      ap unescaped (written_is text utf8 (p + 1) s.close (escaped 39 c) (39 ∷ K) i j)
      ∙ (ap unescaped (sym (append-nil (escaped 39 c))) ∙ unescaped_form 39 c (escaped 39 c) [] (form_in_single c))

  character_trees_flawless : (p e : ℕ) → IsFlawless text (character_trees p e)
  unfolding own_flaw
  character_trees_flawless p e = flawless_tree text (λ vs. refl) (flawless_none text) (flawless_tree text (λ vs. refl) (flawless_none text) (flawless_tree text (λ vs. refl) (flawless_none text) (flawless_none text)))

  range_of : (c d : ℕ) → IsText (c ∷ []) → IsText (d ∷ []) → IsNodeText text (λ K. range_before (c ∷ []) (d ∷ []) K) (Range (c ∷ []) (d ∷ []))
  unfolding whitespace comment own_flaw
  range_of c d h k p b K₀ K here f loop =
      let M : Text = 39 ∷ (escaped 39 d ++ (39 ∷ K₀)) in
      let L : Text = escaped 39 c ++ (39 ∷ 46 ∷ 46 ∷ M) in
      let s = character_at c (46 ∷ 46 ∷ M) p in
      let q = s.close + 1 in
      let u = character_at d K₀ (q + 2) in
      let middle : IsLeftAt text q (46 ∷ 46 ∷ M) = still_left text s.does here in
      let low = character_value p c (46 ∷ 46 ∷ M) s here in
      let high = character_value (q + 2) d K₀ u (still_left text {k = Run NonAtomicMode (bare.Str (46 ∷ 46 ∷ []))} str middle) in
      let does : Calls is.range (at p (39 ∷ L)) (Success (at (u.close + 1) K₀) (Tree (codes "range") p (u.close + 1)
      (Tree (codes "character") p q (character_trees p s.close) (Lone (codes "range_operator") q (q + 2) (Tree (codes "character") (q + 2) (u.close + 1) (character_trees (q + 2) u.close) None'))) None')) =
      call is.range refl (seq (seq s.does (stays 46 (46 ∷ M) q refl) (call is.range_operator refl str)) (stays 39 (escaped 39 d ++ (39 ∷ K₀)) (q + 2) refl) u.does) in
      let node = as_node text 39 L p refl (call is.terminal refl (right (right (right (no_word 39 L p refl refl refl) (fails is.string 39 L p refl)) (fails is.insensitive_string 39 L p refl)) does)) in
      node_with text p (u.close + 1) (39 ∷ L) K₀ K _ _ _ (Range (c ∷ []) (d ∷ [])) b (node_start 39 L refl refl refl refl) node (leaf range) (record { same = ap₂ Range low high })
      (flawless_tree text (λ vs. refl)
      (character_flawless text utf8 p q (character_trees p s.close) _ (c ∷ []) low h (character_trees_flawless p s.close)
      (flawless_tree text (λ vs. refl) (flawless_none text)
      (character_flawless text utf8 (q + 2) (u.close + 1) (character_trees (q + 2) u.close) None' (d ∷ []) high k (character_trees_flawless (q + 2) u.close) (flawless_none text))))
      (flawless_none text)) here loop

  pub range_text : (t u : Text) → IsText t → IsText u → length t ≡ 1 → length u ≡ 1 → IsNodeText text (λ K. range_before t u K) (Range t u)
  range_text (c ∷ []) (d ∷ []) h k i j = range_of c d h k
  range_text [] u h k i j = absurd (omega (arith, i))
  range_text (c ∷ []) [] h k i j = absurd (omega (arith, j))
  range_text (c ∷ []) (d ∷ e ∷ u) h k i j = absurd (omega (arith, j))
  range_text (c ∷ d ∷ t) u h k i j = absurd (omega (arith, i))

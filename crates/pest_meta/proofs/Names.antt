-- Names.
use Rattle.std.proofs.Common.{◌≡◌, refl, ap, ℕ, ◌+◌, List, [], ◌∷◌, ◌++◌, Bool, true, false, not, ◌||◌, ◌&&◌, nat_eq, codes}
use Rattle.std.specs.Str.{IsUtf8}
use Rattle.std.proofs.lemmas.Bool.{not-true}
use Rattle.base_language.specs.Language.Text.{Text}
use Rattle.base_language.specs.Language.Expression.{Expression, Str, Range, Ident, Seq, Rep, whitespace, comment}
use Rattle.base_language.specs.Language.State.{NonAtomicMode, AtomicMode, None', Tree, Success, Failure}
use Rattle.base_language.specs.Language.Matching.{begins}
use Rattle.base_language.specs.Language.Meaning.{Run, Turns}
use Rattle.base_language.specs.declared.grammar.Rule.TheVariants as is
use Rattle.base_language.proofs.Basics.{first_of_both, second_of_both}
use Rattle.base_language.proofs.Beginnings.{begins-gives}
use Rattle.front_grammar.proofs.FirstCharacters.{is_among}
use Rattle.front_grammar.specs.MetaGrammar.{rule, ◌or◌}
use Rattle.front_reader.specs.Reading.{leaf, identifier}
use Rattle.front_reader.specs.Flaws.{own_flaw}
use Rattle.pest_meta.specs.ReadsBack.{is_name, is_name_start, is_name_character, are_name_characters}
use Rattle.pest_meta.proofs.Deriving.{at, Gives, Calls, Skips, str, range, call, neg_pred, seq, seq_first, seq_second, left, right, rep, rep_none, turn, turn_none, atomic, stays, one_blank}
use Rattle.pest_meta.proofs.Parts.{MayFollowTerm, tilde, bar, brace, paren, MayFollowNode, an_operator, no_operator, node_start, flawless_none, flawless_tree, still_left, IsNodeText}
use Rattle.pest_meta.proofs.Characters.{differs, excluded, solid_when, refused, past, sign_misses, text_misses, word_takes, word_misses, start_takes}
use Rattle.pest_meta.proofs.WrittenBetween.{written_is}
use Rattle.pest_meta.proofs.Nodes.{node_with, as_node}

-- what may stand behind a name: nothing, or a character that no name has
pub data MayFollowName : Text → Type 0 where
  at_end : MayFollowName []
  following : (c : ℕ) (L : Text) → is_name_character c ≡ false → MayFollowName (c ∷ L)

behind_first : {K₀ K : Text} → MayFollowTerm K₀ K → MayFollowName K₀
behind_first (tilde K) = following 32 (126 ∷ 32 ∷ K) refl
behind_first (bar K) = following 32 (124 ∷ 32 ∷ K) refl
behind_first (brace K) = following 32 (125 ∷ K) refl
behind_first (paren K) = following 41 K refl

pub first_of : {K₀ : Text} → MayFollowNode K₀ → MayFollowName K₀
first_of (an_operator c K h) = following c K (refused is_name_character (codes "?*+{") c refl h)
first_of (no_operator b) = behind_first b

pub start_is_word : (c : ℕ) → is_name_start c ≡ true → is_name_character c ≡ true
start_is_word c h = go (nat_eq 95 c) _ _ h
  where
    go : (a b d : Bool) → (a || b) ≡ true → (a || (b || d)) ≡ true
    go true b d k = refl
    go false true d k = refl
    go false false d k = cc

-- a word of letters is not begun by what follows it
begins_not : (t n K₀ : Text) → are_name_characters t ≡ true → MayFollowName K₀ → begins nat_eq t n ≡ false → begins nat_eq t (n ++ K₀) ≡ false
begins_not [] n K₀ h f k = cc
begins_not (x ∷ t) [] _ h at_end k = refl
begins_not (x ∷ t) [] _ h (following c L i) k = let e = differs (λ y. not (is_name_character y)) x c (ap not (first_of_both _ _ h)) (ap not i) in rw e refl
begins_not (x ∷ t) (d ∷ n) K₀ h f k = go (nat_eq x d) (begins_not t n K₀ (second_of_both _ _ h) f) k
  where
    go : (b : Bool) → (begins nat_eq t n ≡ false → begins nat_eq t (n ++ K₀) ≡ false) → (b && begins nat_eq t n) ≡ false → (b && begins nat_eq t (n ++ K₀)) ≡ false
    go true f k = f k
    go false f k = refl

begins_longer : (t v u : Text) → begins nat_eq t u ≡ false → begins nat_eq (t ++ v) u ≡ false
begins_longer [] v u h = cc
begins_longer (x ∷ t) v [] h = refl
begins_longer (x ∷ t) v (y ∷ u) h = go (nat_eq x y) (begins_longer t v u) h
  where
    go : (b : Bool) → (begins nat_eq t u ≡ false → begins nat_eq (t ++ v) u ≡ false) → (b && begins nat_eq t u) ≡ false → (b && begins nat_eq (t ++ v) u) ≡ false
    go true f k = f k
    go false f k = refl

words_behind : (t m : Text) → are_name_characters (t ++ m) ≡ true → are_name_characters m ≡ true
words_behind [] m h = h
words_behind (c ∷ t) m h = words_behind t m (second_of_both _ _ h)

abbrev word : Expression
word = Str (codes "_") or rule is.alpha_num

pub range_at_end : {a z : ℕ} (p : ℕ) → Gives (Run AtomicMode (Range (a ∷ []) (z ∷ []))) (at p []) Failure
range_at_end p = range

no_word_at_end : (p : ℕ) → Gives (Run AtomicMode word) (at p []) Failure
unfolding whitespace comment
no_word_at_end p = right str (call is.alpha_num refl (right (call is.alpha refl (right (range_at_end p) (range_at_end p))) (range_at_end p)))

words_turns : (n K₀ : Text) → are_name_characters n ≡ true → MayFollowName K₀ → (p : ℕ) → (q : ℕ) × Gives (Turns AtomicMode word) (at p (n ++ K₀)) (Success (at q K₀) None')
words_turns [] _ h at_end p = (p, turn_none atomic (no_word_at_end p))
words_turns [] _ h (following c L i) p = (p, turn_none atomic (word_misses c L p i))
words_turns (c ∷ n) K₀ h f p = let (q, d) = words_turns n K₀ (second_of_both _ _ h) f (past p c) in (q, turn atomic (word_takes c (n ++ K₀) p (first_of_both _ _ h)) d)

pub words_rep : (n K₀ : Text) → are_name_characters n ≡ true → MayFollowName K₀ → (p : ℕ) → (q : ℕ) × Gives (Run AtomicMode (Rep word)) (at p (n ++ K₀)) (Success (at q K₀) None')
words_rep [] _ h at_end p = (p, rep_none (no_word_at_end p))
words_rep [] _ h (following c L i) p = (p, rep_none (word_misses c L p i))
words_rep (c ∷ n) K₀ h f p = let (q, d) = words_turns n K₀ (second_of_both _ _ h) f (past p c) in (q, rep (word_takes c (n ++ K₀) p (first_of_both _ _ h)) d)

-- the name at a place
pub name_does : (c : ℕ) (n K₀ : Text) → is_name (c ∷ n) ≡ true → MayFollowName K₀ → (p : ℕ) → (q : ℕ) × Calls is.identifier (at p (c ∷ (n ++ K₀))) (Success (at q K₀) (Tree (codes "identifier") p q None' None'))
unfolding whitespace comment
name_does c n K₀ h f p =
    let unpushed = begins_not (codes "PUSH") (c ∷ n) K₀ refl f (not-true _ (first_of_both _ _ h)) in
    let named = second_of_both (not (begins nat_eq (codes "PUSH") (c ∷ n))) _ h in
    let (q, d) = words_rep n K₀ (second_of_both _ _ named) f (past p c) in
    (q, call is.identifier refl (seq (seq (neg_pred (text_misses (codes "PUSH") _ p unpushed)) atomic (start_takes c (n ++ K₀) p (first_of_both _ _ named))) atomic d))

-- no bracket behind it
record NoBracket (p : ℕ) (R : Text) : Type 0 where
  pub place : ℕ
  pub left_ : Text
  pub skip : Skips (at p R) place left_
  pub none : Calls is.opening_brack (at place left_) Failure

no_bracket_behind : {K₀ K : Text} → MayFollowTerm K₀ K → (p : ℕ) → NoBracket p K₀
unfolding whitespace comment
no_bracket_behind (tilde K) p = record { place = p + 1; left_ = 126 ∷ 32 ∷ K; skip = one_blank 126 (32 ∷ K) p refl; none = call is.opening_brack refl str }
no_bracket_behind (bar K) p = record { place = p + 1; left_ = 124 ∷ 32 ∷ K; skip = one_blank 124 (32 ∷ K) p refl; none = call is.opening_brack refl str }
no_bracket_behind (brace K) p = record { place = p + 1; left_ = 125 ∷ K; skip = one_blank 125 K p refl; none = call is.opening_brack refl str }
no_bracket_behind (paren K) p = record { place = p; left_ = 41 ∷ K; skip = stays 41 K p refl; none = call is.opening_brack refl str }

no_bracket : (m K₀ : Text) → are_name_characters m ≡ true → MayFollowNode K₀ → (p : ℕ) → NoBracket p (m ++ K₀)
unfolding whitespace comment
no_bracket [] K₀ h (an_operator c K i) p =
    let good : ℕ → Bool = λ y. is_among (codes "?*+{") y in
    record { place = p; left_ = c ∷ K; skip = stays c K p (solid_when good c refl refl i); none = call is.opening_brack refl (sign_misses 91 [] c K p (differs good 91 c refl i)) }
no_bracket [] K₀ h (no_operator b) p = no_bracket_behind b p
no_bracket (c ∷ m) K₀ h f p =
    let i = first_of_both _ _ h in
    record { place = p; left_ = c ∷ (m ++ K₀); skip = stays c (m ++ K₀) p (solid_when is_name_character c refl refl i); none = call is.opening_brack refl (sign_misses 91 [] c (m ++ K₀) p (differs is_name_character 91 c refl i)) }

no_slice : (n K₀ : Text) → are_name_characters n ≡ true → MayFollowNode K₀ → (p : ℕ) → Gives (Run NonAtomicMode (Seq (Str (codes "PEEK")) (rule is.opening_brack))) (at p (n ++ K₀)) Failure
no_slice n K₀ h f p = go (begins nat_eq (codes "PEEK") n) refl
  where
    after_peek : (m : Text) → are_name_characters m ≡ true → Gives (Run NonAtomicMode (Seq (Str (codes "PEEK")) (rule is.opening_brack))) (at p (codes "PEEK" ++ (m ++ K₀))) Failure
    after_peek m i = let b = no_bracket m K₀ i f (p + 4) in seq_second str b.skip b.none

    go : (b : Bool) → begins nat_eq (codes "PEEK") n ≡ b → Gives (Run NonAtomicMode (Seq (Str (codes "PEEK")) (rule is.opening_brack))) (at p (n ++ K₀)) Failure
    go false e = seq_first (text_misses (codes "PEEK") _ p (begins_not (codes "PEEK") n K₀ refl (first_of f) e))
    go true e =
        let (m, i) = begins-gives (codes "PEEK") n e in
        rw i (after_peek m (words_behind (codes "PEEK") m (rw i at h)))

module _ (text : List ℕ) (utf8 : IsUtf8 text) where
  pub name_node : (c : ℕ) (n : Text) → is_name (c ∷ n) ≡ true → IsNodeText text (λ K. c ∷ (n ++ K)) (Ident (c ∷ n))
  unfolding whitespace comment own_flaw
  name_node c n h p b K₀ K here f loop =
      let t : Text = n ++ K₀ in
      let (q, d) = name_does c n K₀ h (first_of f) p in
      let named = second_of_both (not (begins nat_eq (codes "PUSH") (c ∷ n))) _ h in
      let i : is_name_start c ≡ true = first_of_both _ _ named in
      let words : are_name_characters (c ∷ n) ≡ true = rw (start_is_word c i) (second_of_both _ _ named) in
      let unpushed : begins nat_eq (codes "PUSH") (c ∷ t) ≡ false = begins_not (codes "PUSH") (c ∷ n) K₀ refl (first_of f) (not-true _ (first_of_both _ _ h)) in
      let no_literal : Calls is._push_literal (at p (c ∷ t)) Failure = call is._push_literal refl (seq_first (seq_first (seq_first (text_misses (codes "PUSH_LITERAL") _ p (begins_longer (codes "PUSH") (codes "_LITERAL") (c ∷ t) unpushed))))) in
      let no_push : Calls is._push (at p (c ∷ t)) Failure = call is._push refl (seq_first (seq_first (seq_first (text_misses (codes "PUSH") _ p unpushed)))) in
      let no_peek : Calls is.peek_slice (at p (c ∷ t)) Failure = call is.peek_slice refl (seq_first (seq_first (seq_first (seq_first (no_slice (c ∷ n) K₀ words f p))))) in
      let node = as_node text c t p (differs is_name_start 40 c refl i) (call is.terminal refl (left (left (left (right (right (right no_literal no_push) no_peek) d))))) in
      node_with text p q (c ∷ t) K₀ K _ _ _ (Ident (c ∷ n)) b
      (node_start c t (solid_when is_name_start c refl refl i) (excluded is_name_start (codes "#") c refl i) (excluded is_name_start (codes "|") c refl i) (excluded is_name_start (codes "&!") c refl i))
      node (leaf identifier) (record { same = ap Ident (written_is text utf8 p q (c ∷ n) K₀ here (still_left text d here)) }) (flawless_tree text (λ vs. refl) (flawless_none text) (flawless_none text)) here loop

  pub name_text : (n : Text) → is_name n ≡ true → IsNodeText text (λ K. n ++ K) (Ident n)
  name_text [] h = cc
  name_text (c ∷ n) h = name_node c n h

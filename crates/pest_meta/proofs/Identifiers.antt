-- Names are what `identifier` accepts.
use Rattle.std.proofs.Common.{◌≡◌, refl, sym, ap, subst, ℕ, [], ◌∷◌, ◌++◌, Bool, true, false, not, ◌&&◌, nat_eq, codes, if◌then◌else◌, append-nil}
use Rattle.base_language.specs.Language.Text.{Text}
use Rattle.base_language.specs.Language.Expression.{Ident, Str, whitespace, comment}
use Rattle.base_language.specs.Language.State.{moved, NonAtomicMode, Classes, State, Trees, Success, Failure, None', Tree, AtomicMode}
use Rattle.base_language.specs.Language.Matching.{begins}
use Rattle.base_language.specs.Language.Meaning.{Does, Run}
use Rattle.base_language.specs.Pieces.MetaRules.{name_of}
use Rattle.base_language.specs.declared.grammar.Rule.TheVariants as is
use Rattle.base_language.proofs.OneOutcome.{same}
use Rattle.front_grammar.specs.MetaGrammar.{meta_grammar}
use Rattle.pest_meta.specs.ReadsBack.{TakesAll, NamesAreIdentifiers, is_name, is_name_start, is_name_character, are_name_characters}
use Rattle.pest_meta.proofs.Deriving.{at, Gives, Calls, str, call, neg_pred, seq_first, seq_second, right, atomic}
use Rattle.pest_meta.proofs.Characters.{start_misses, text_misses}
use Rattle.pest_meta.proofs.Names.{following, at_end, name_does, range_at_end}

pub not_empty : {s t : State} {us vs : Trees} {c : ℕ} {K : Text} → Success s us ≡ Success t vs → s.rest ≡ c ∷ K → t.rest ≡ [] → ⊥
not_empty h i j = cc

pub no_success : {t : State} {us : Trees} → Failure ≡ Success t us → ⊥
no_success h = cc

-- a text that is not all letters: the letters, and the first other character
pub split_words : (m : Text) → are_name_characters m ≡ false → (w : Text) × (x : ℕ) × (R : Text) × (m ≡ w ++ (x ∷ R)) × (are_name_characters w ≡ true) × (is_name_character x ≡ false)
split_words [] h = cc
split_words (c ∷ m) h = go (is_name_character c) refl (split_words m) h
  where
    go : (b : Bool) → is_name_character c ≡ b → (are_name_characters m ≡ false → (w : Text) × (x : ℕ) × (R : Text) × (m ≡ w ++ (x ∷ R)) × (are_name_characters w ≡ true) × (is_name_character x ≡ false)) → (b && are_name_characters m) ≡ false
        → (w : Text) × (x : ℕ) × (R : Text) × (c ∷ m ≡ w ++ (x ∷ R)) × (are_name_characters w ≡ true) × (is_name_character x ≡ false)
    go true e f k = let (w, x, R, i, j, l) = f k in (c ∷ w, x, R, ap (λ z. c ∷ z) i, rw e j, l)
    go false e f k = ([], c, m, refl, refl, e)

begins_more : (t w R : Text) → begins nat_eq t w ≡ true → begins nat_eq t (w ++ R) ≡ true
begins_more [] w R h = refl
begins_more (x ∷ t) [] R h = cc
begins_more (x ∷ t) (y ∷ w) R h = go (nat_eq x y) (begins_more t w R) h
  where
    go : (b : Bool) → (begins nat_eq t w ≡ true → begins nat_eq t (w ++ R) ≡ true) → (b && begins nat_eq t w) ≡ true → (b && begins nat_eq t (w ++ R)) ≡ true
    go true f k = f k
    go false f k = k

not_pushed : (w R : Text) → begins nat_eq (codes "PUSH") (w ++ R) ≡ false → begins nat_eq (codes "PUSH") w ≡ false
not_pushed w R h = go (begins nat_eq (codes "PUSH") w) refl
  where
    go : (b : Bool) → begins nat_eq (codes "PUSH") w ≡ b → b ≡ false
    go true e = let i = begins_more (codes "PUSH") w R e in cc
    go false e = refl

pushed_fails : (n : Text) → begins nat_eq (codes "PUSH") n ≡ true → Calls is.identifier (at 0 n) Failure
unfolding whitespace comment
pushed_fails n h = call is.identifier refl (seq_first (seq_first (neg_pred takes)))
  where
    takes : Gives (Run AtomicMode (Str (codes "PUSH"))) (at 0 n) (Success (moved 4 (at 0 n)) None')
    takes = subst (λ b. Gives (Run AtomicMode (Str (codes "PUSH"))) (at 0 n) (if b then Success (moved 4 (at 0 n)) None' else Failure)) h str

end_fails : Calls is.identifier (at 0 []) Failure
unfolding whitespace comment
end_fails = call is.identifier refl (seq_first (seq_second (neg_pred str) atomic (right str (call is.alpha refl (right (range_at_end 0) (range_at_end 0))))))

start_fails : (c : ℕ) (m : Text) → begins nat_eq (codes "PUSH") (c ∷ m) ≡ false → is_name_start c ≡ false → Calls is.identifier (at 0 (c ∷ m)) Failure
unfolding whitespace comment
start_fails c m h k = call is.identifier refl (seq_first (seq_second (neg_pred (text_misses (codes "PUSH") (c ∷ m) 0 h)) atomic (start_misses c m 0 k)))

module _ (classes : Classes) where
  accepted : (n : Text) → is_name n ≡ true → TakesAll is.identifier classes n
  accepted [] h = cc
  accepted (c ∷ m) h =
      let (q, d) = name_does c m [] h at_end 0 in
      record {
        end = at q [];
        trees = _;
        matched = subst (λ x. Does meta_grammar classes (Run NonAtomicMode (Ident (name_of is.identifier))) (at 0 (c ∷ x)) (Success (at q []) (Tree (codes "identifier") 0 q None' None'))) (append-nil m) (d classes);
        all = refl;
      }

  partly : (c : ℕ) (m : Text) → begins nat_eq (codes "PUSH") (c ∷ m) ≡ false → is_name_start c ≡ true → are_name_characters m ≡ false → TakesAll is.identifier classes (c ∷ m) → ⊥
  partly c m h i j a =
      let (w, x, R, e, k, l) = split_words m j in
      let unpushed : begins nat_eq (codes "PUSH") (c ∷ w) ≡ false = not_pushed (c ∷ w) (x ∷ R) (subst (λ z. begins nat_eq (codes "PUSH") (c ∷ z) ≡ false) e h) in
      let (q, d) = name_does c w (x ∷ R) (rw (unpushed, i, k) refl) (following x R l) 0 in
      let f = subst (λ z. Does meta_grammar classes (Run NonAtomicMode (Ident (name_of is.identifier))) (at 0 (c ∷ z)) (Success (at q (x ∷ R)) (Tree (codes "identifier") 0 q None' None'))) (sym e) (d classes) in
      not_empty (same meta_grammar classes f a.matched) refl a.all

  refused : (n : Text) → is_name n ≡ false → TakesAll is.identifier classes n → ⊥
  refused [] h a = no_success (same meta_grammar classes (end_fails classes) a.matched)
  refused (c ∷ m) h a = go (begins nat_eq (codes "PUSH") (c ∷ m)) (is_name_start c) (are_name_characters m) refl refl refl h
    where
      go : (p s w : Bool) → begins nat_eq (codes "PUSH") (c ∷ m) ≡ p → is_name_start c ≡ s → are_name_characters m ≡ w → (not p && (s && w)) ≡ false → ⊥
      go true s w e f g k = no_success (same meta_grammar classes (pushed_fails (c ∷ m) e classes) a.matched)
      go false false w e f g k = no_success (same meta_grammar classes (start_fails c m e f classes) a.matched)
      go false true false e f g k = partly c m e f g a
      go false true true e f g k = cc

pub names_are_identifiers : NamesAreIdentifiers
names_are_identifiers n classes = (accepted classes n, λ a. go (is_name n) refl a)
  where
    go : (b : Bool) → is_name n ≡ b → TakesAll is.identifier classes n → b ≡ true
    go true e a = refl
    go false e a = absurd (refused classes n e a)

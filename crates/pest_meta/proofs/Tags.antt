-- Tags are what `tag_id` accepts behind `#`.
use Rattle.std.proofs.Common.{◌≡◌, refl, sym, subst, ℕ, [], ◌∷◌, ◌++◌, Bool, true, false, ◌&&◌, codes, append-nil}
use Rattle.base_language.specs.Language.Text.{Text}
use Rattle.base_language.specs.Language.Expression.{Ident, Str, whitespace, comment}
use Rattle.base_language.specs.Language.State.{NonAtomicMode, AtomicMode, Classes, Success, Failure, None', Tree}
use Rattle.base_language.specs.Language.Meaning.{Does, Run}
use Rattle.base_language.specs.Pieces.MetaRules.{name_of}
use Rattle.base_language.specs.declared.grammar.Rule.TheVariants as is
use Rattle.base_language.proofs.OneOutcome.{same}
use Rattle.base_language.proofs.Basics.{first_of_both, second_of_both}
use Rattle.front_grammar.specs.MetaGrammar.{meta_grammar}
use Rattle.pest_meta.specs.ReadsBack.{TakesAll, TagsAreTagIds, is_tag, is_name_start, are_name_characters}
use Rattle.pest_meta.proofs.Deriving.{at, Gives, Calls, str, call, seq, seq_first, seq_second, right, atomic}
use Rattle.pest_meta.proofs.Characters.{past, sign_takes, start_takes, start_misses}
use Rattle.pest_meta.proofs.Names.{MayFollowName, following, at_end, words_rep, range_at_end}
use Rattle.pest_meta.proofs.Identifiers.{not_empty, no_success, split_words}

hash_takes : (t : Text) (p : ℕ) → Gives (Run AtomicMode (Str (codes "#"))) (at p (35 ∷ t)) (Success (at (past p 35) t) None')
hash_takes t p = sign_takes 35 35 t p refl

-- the tag at a place, before what follows it
pub tag_does : (c : ℕ) (w K : Text) → is_tag (c ∷ w) ≡ true → MayFollowName K → (p : ℕ) → (q : ℕ) × Calls is.tag_id (at p (35 ∷ (c ∷ (w ++ K)))) (Success (at q K) (Tree (codes "tag_id") p q None' None'))
unfolding whitespace comment
tag_does c w K h f p =
    let (q, d) = words_rep w K (second_of_both _ _ h) f (past (past p 35) c) in
    (q, call is.tag_id refl (seq (seq (hash_takes (c ∷ (w ++ K)) p) atomic (start_takes c (w ++ K) (past p 35) (first_of_both _ _ h))) atomic d))

end_fails : Calls is.tag_id (at 0 (35 ∷ [])) Failure
unfolding whitespace comment
end_fails = call is.tag_id refl (seq_first (seq_second (hash_takes [] 0) atomic (right str (call is.alpha refl (right (range_at_end (past 0 35)) (range_at_end (past 0 35)))))))

start_fails : (c : ℕ) (m : Text) → is_name_start c ≡ false → Calls is.tag_id (at 0 (35 ∷ (c ∷ m))) Failure
unfolding whitespace comment
start_fails c m h = call is.tag_id refl (seq_first (seq_second (hash_takes (c ∷ m) 0) atomic (start_misses c m (past 0 35) h)))

module _ (classes : Classes) where
  accepted : (t : Text) → is_tag t ≡ true → TakesAll is.tag_id classes (35 ∷ t)
  accepted [] h = cc
  accepted (c ∷ m) h =
      let (q, d) = tag_does c m [] h at_end 0 in
      record {
        end = at q [];
        trees = _;
        matched = subst (λ x. Does meta_grammar classes (Run NonAtomicMode (Ident (name_of is.tag_id))) (at 0 (35 ∷ (c ∷ x))) (Success (at q []) (Tree (codes "tag_id") 0 q None' None'))) (append-nil m) (d classes);
        all = refl;
      }

  partly : (c : ℕ) (m : Text) → is_name_start c ≡ true → are_name_characters m ≡ false → TakesAll is.tag_id classes (35 ∷ (c ∷ m)) → ⊥
  partly c m i j a =
      let (w, x, R, e, k, l) = split_words m j in
      let (q, d) = tag_does c w (x ∷ R) (rw (i, k) refl) (following x R l) 0 in
      let f = subst (λ z. Does meta_grammar classes (Run NonAtomicMode (Ident (name_of is.tag_id))) (at 0 (35 ∷ (c ∷ z))) (Success (at q (x ∷ R)) (Tree (codes "tag_id") 0 q None' None'))) (sym e) (d classes) in
      not_empty (same meta_grammar classes f a.matched) refl a.all

  refused : (t : Text) → is_tag t ≡ false → TakesAll is.tag_id classes (35 ∷ t) → ⊥
  refused [] h a = no_success (same meta_grammar classes (end_fails classes) a.matched)
  refused (c ∷ m) h a = go (is_name_start c) (are_name_characters m) refl refl h
    where
      go : (s w : Bool) → is_name_start c ≡ s → are_name_characters m ≡ w → (s && w) ≡ false → ⊥
      go false w e f k = no_success (same meta_grammar classes (start_fails c m e classes) a.matched)
      go true false e f k = partly c m e f a
      go true true e f k = cc

pub tags_are_tag_ids : TagsAreTagIds
tags_are_tag_ids t classes = (accepted classes t, λ a. go (is_tag t) refl a)
  where
    go : (b : Bool) → is_tag t ≡ b → TakesAll is.tag_id classes (35 ∷ t) → b ≡ true
    go true e a = refl
    go false e a = absurd (refused classes t e a)

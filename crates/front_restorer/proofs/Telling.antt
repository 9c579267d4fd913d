-- Flags that are right and closed tell which names change the stack.
use Rattle.std.proofs.Common.{◌≡◌, ℕ, List, Option, Some, Bool, true, inl, inr, slice_get, refl, sym, ◌∙◌, ap, subst, String, Global}
use Rattle.std.proofs.lemmas.Bool.{or_cases, or_left, or_right}
use Rattle.base_language.specs.Language.Text.{Text}
use Rattle.base_language.specs.Language.Expression.{Expression, Ident, Rule, rule_of, last_place}
use Rattle.base_language.specs.Rewritings.Wrapping.{ChangesStack, changes_push, changes_push_literal, changes_pop, changes_pop_all, changes_drop, changes_rule, changes_pos_pred, changes_neg_pred, changes_seq_left, changes_seq_right, changes_left, changes_right, changes_opt, changes_rep, changes_rep_once, changes_rep_exact, changes_rep_min, changes_rep_max, changes_rep_min_max, changes_tag}
use Rattle.base_language.proofs.Basics.{got_alike}
use Rattle.base_ast.specs.Ast.{text_of}
use Rattle.base_ast.specs.Optimized.{optimized_expression_of}
use Rattle.base_graphs.specs.Least.{follows, is_set_at}
use Rattle.front_restorer.specs.Bodies.{NamedBody, rule_with, grammar_with}
use Rattle.front_restorer.specs.Calls.{number_changes, name_changes}
use Rattle.front_restorer.specs.Changing.{is_changer, changes_by}
use Rattle.front_restorer.specs.Names.{number_of, KnowsNames}
use Rattle.front_restorer.specs.Summaries.{AreClosed, AreSummariesOf, AreSound, Holds}
use Rattle.front_restorer.specs.declared.names.Names.{Names}
use Rattle.front_restorer.specs.declared.summaries.Summaries.{Summaries}
use Rattle.front_restorer.proofs.Changers.{changer_changes, drop_named, pop_all_named, pop_named}
use Rattle.front_restorer.proofs.Deciding.{changing}
use Rattle.front_restorer.proofs.Looking.{shown_at}
use Rattle.front_restorer.proofs.Naming.{Named, absent, named, resolved}
use Rattle.front_restorer.proofs.Said.{IsSaid, said}

module _ (bs : List NamedBody) (names : Names) (noted : Summaries) (known : KnowsNames names (grammar_with bs)) (met : AreSummariesOf names bs noted) where
  -- a name changes the stack where its rule does
  by_number : (p : ℕ → Bool) → ((i : ℕ) (b : NamedBody) → slice_get bs i ≡ Some b → p i ≡ true → ChangesStack (grammar_with bs) (optimized_expression_of b.1))
      → (s : String Global) → name_changes names p (text_of s) ≡ true → ChangesStack (grammar_with bs) (Ident (text_of s))
  by_number p f s h = elim (or_cases (is_changer (text_of s)) (number_changes p (number_of names (text_of s))) h) [
    | inl k ↦ changer_changes (grammar_with bs) (text_of s) k
    | inr k ↦ go (last_place (grammar_with bs) (text_of s)) (resolved bs (text_of s)) (sym (ap (number_changes p) (known s)) ∙ k)
  ]
    where
      go : (o : Option ℕ) → Named bs (text_of s) o → number_changes p o ≡ true → ChangesStack (grammar_with bs) (Ident (text_of s))
      go o (absent e) k = cc
      go o (named {i = i} b at e) k = changes_rule e (f i b at k)

  holding : {i : ℕ} → Holds noted i → (b : NamedBody) → slice_get bs i ≡ Some b → ChangesStack (grammar_with bs) (optimized_expression_of b.1)
  holding (follows {i = i} {a = s} p at sh f) b e =
      changing (grammar_with bs) (name_changes names p) (by_number p (λ j d g k. holding (f j k) d g)) (optimized_expression_of b.1) (said b.1) (sym (shown_at names bs noted p i b s met e at) ∙ sh)

  module _ (flags : List Bool) (closed : AreClosed noted flags) where
    abbrev p : Text → Bool
    p = name_changes names (is_set_at flags)

    flagged_rule : (n : Text) (s : String Global) (r : Rule) → n ≡ text_of s → rule_of (grammar_with bs) n ≡ Some r → (IsSaid r.body → changes_by p r.body ≡ true) → p n ≡ true
    flagged_rule n s r k e f = or_right (is_changer n) (number_changes (is_set_at flags) (number_of names n)) (ap (λ m. number_changes (is_set_at flags) (number_of names m)) k ∙ (ap (number_changes (is_set_at flags)) (known s) ∙ (ap (λ m. number_changes (is_set_at flags) (last_place (grammar_with bs) m)) (sym k) ∙ go (last_place (grammar_with bs) n) (resolved bs n))))
      where
        go : (o : Option ℕ) → Named bs n o → number_changes (is_set_at flags) o ≡ true
        go o (absent a) = cc
        go o (named {i = i} b at a) =
            let same : rule_with b ≡ r = cc in
            let own : changes_by p (optimized_expression_of b.1) ≡ true = ap (λ (q : Rule). changes_by p q.body) same ∙ f (subst (λ (q : Rule). IsSaid q.body) same (said b.1)) in
            let (s, here) = got_alike bs noted.shares.items i b at (sym met.alike) in
            closed i s here (shown_at names bs noted (is_set_at flags) i b s met at here ∙ own)

    complete : {e : Expression} → ChangesStack (grammar_with bs) e → IsSaid e → changes_by p e ≡ true
    complete changes_push s = refl
    complete changes_push_literal s = refl
    complete (changes_tag d) s = complete d s
    complete (changes_pop {n = n} b) s = or_left (is_changer n) (number_changes (is_set_at flags) (number_of names n)) (pop_named n b)
    complete (changes_pop_all {n = n} b) s = or_left (is_changer n) (number_changes (is_set_at flags) (number_of names n)) (pop_all_named n b)
    complete (changes_drop {n = n} b) s = or_left (is_changer n) (number_changes (is_set_at flags) (number_of names n)) (drop_named n b)
    complete (changes_rule {n = n} {r = r} e d) (s, k) = flagged_rule n s r k e (λ h. complete d h)
    complete (changes_pos_pred d) s = complete d s
    complete (changes_neg_pred d) s = complete d s
    complete (changes_seq_left {a = a} {b = b} d) s = or_left (changes_by p a) (changes_by p b) (complete d s.0)
    complete (changes_seq_right {a = a} {b = b} d) s = or_right (changes_by p a) (changes_by p b) (complete d s.1)
    complete (changes_left {a = a} {b = b} d) s = or_left (changes_by p a) (changes_by p b) (complete d s.0)
    complete (changes_right {a = a} {b = b} d) s = or_right (changes_by p a) (changes_by p b) (complete d s.1)
    complete (changes_opt d) s = complete d s
    complete (changes_rep d) s = complete d s
    complete (changes_rep_once d) s = complete d s
    complete (changes_rep_exact d) s = complete d s
    complete (changes_rep_min d) s = complete d s
    complete (changes_rep_max d) s = complete d s
    complete (changes_rep_min_max d) s = complete d s

    pub tells : AreSound noted flags → (n : String Global) → (p (text_of n) ≡ true → ChangesStack (grammar_with bs) (Ident (text_of n))) × (ChangesStack (grammar_with bs) (Ident (text_of n)) → p (text_of n) ≡ true)
    tells sound n = (
      (λ h. by_number (is_set_at flags) (λ i b at k. holding (sound.right i k) b at) n h),
      (λ d. complete d (n, refl)),
    )

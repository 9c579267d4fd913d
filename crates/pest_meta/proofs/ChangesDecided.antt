-- It is decided whether an expression changes the stack.
use Rattle.std.proofs.Common.{◌≡◌, refl, Bool, true, ◌||◌, inl, inr}
use Rattle.std.specs.Bool.{Decides}
use Rattle.std.proofs.lemmas.Bool.{or_cases, or_left, or_right}
use Rattle.base_language.specs.Language.Text.{Text}
use Rattle.base_language.specs.Language.Expression.{Expression, Ident, PosPred, NegPred, Seq, Choice, Opt, Rep, RepOnce, RepExact, RepMin, RepMax, RepMinMax, Push, PushLiteral, NodeTag, Grammar}
use Rattle.base_language.specs.Rewritings.Wrapping.{ChangesStack, changes_push, changes_push_literal, changes_tag, changes_pop, changes_pop_all, changes_drop, changes_rule, changes_pos_pred, changes_neg_pred, changes_seq_left, changes_seq_right, changes_left, changes_right, changes_opt, changes_rep, changes_rep_once, changes_rep_exact, changes_rep_min, changes_rep_max, changes_rep_min_max}
use Rattle.front_restorer.specs.Changing.{changes_by, is_changer}
use Rattle.front_restorer.proofs.Changers.{changer_changes, drop_named, pop_all_named, pop_named}
use Rattle.pest_meta.proofs.LeastNames.{Least, least}

-- the builtins that change the stack, and names of a set
abbrev with_changers : (Text → Bool) → Text → Bool
with_changers p n = is_changer n || p n

abbrev changes : (Text → Bool) → Expression → Bool
changes p e = changes_by (with_changers p) e

module _ (g : Grammar) where
  changing : (p : Text → Bool) → ((n : Text) → p n ≡ true → ChangesStack g (Ident n)) → (e : Expression) → changes_by p e ≡ true → ChangesStack g e
  changing p f (Ident n) h = f n h
  changing p f (PosPred e) h = changes_pos_pred (changing p f e h)
  changing p f (NegPred e) h = changes_neg_pred (changing p f e h)
  changing p f (Seq a b) h = elim (or_cases (changes_by p a) (changes_by p b) h) [
    | inl k ↦ changes_seq_left (changing p f a k)
    | inr k ↦ changes_seq_right (changing p f b k)
  ]
  changing p f (Choice a b) h = elim (or_cases (changes_by p a) (changes_by p b) h) [
    | inl k ↦ changes_left (changing p f a k)
    | inr k ↦ changes_right (changing p f b k)
  ]
  changing p f (Opt e) h = changes_opt (changing p f e h)
  changing p f (Rep e) h = changes_rep (changing p f e h)
  changing p f (RepOnce e) h = changes_rep_once (changing p f e h)
  changing p f (RepExact e i) h = changes_rep_exact (changing p f e h)
  changing p f (RepMin e i) h = changes_rep_min (changing p f e h)
  changing p f (RepMax e i) h = changes_rep_max (changing p f e h)
  changing p f (RepMinMax e i j) h = changes_rep_min_max (changing p f e h)
  changing p f (Push e) h = changes_push
  changing p f (PushLiteral t) h = changes_push_literal
  changing p f (NodeTag e t) h = changes_tag (changing p f e h)
  changing p f _ h = cc

  with_builtins : (p : Text → Bool) → ((n : Text) → p n ≡ true → ChangesStack g (Ident n)) → (n : Text) → with_changers p n ≡ true → ChangesStack g (Ident n)
  with_builtins p f n h = elim (or_cases (is_changer n) (p n) h) [ inl k ↦ changer_changes g n k | inr k ↦ f n k ]

  read : (p : Text → Bool) → ((n : Text) → p n ≡ true → ChangesStack g (Ident n)) → (e : Expression) → changes p e ≡ true → ChangesStack g e
  read p f e h = changing (with_changers p) (with_builtins p f) e h

  the_least : Least g changes (ChangesStack g) read (λ n r e d. changes_rule e d)
  the_least = least g changes (ChangesStack g) read (λ n r e d. changes_rule e d)

  -- the names that change the stack
  pub changers : Text → Bool
  changers = with_changers the_least.names

  complete : {e : Expression} → ChangesStack g e → changes_by changers e ≡ true
  unfolding changers
  complete changes_push = refl
  complete changes_push_literal = refl
  complete (changes_tag d) = complete d
  complete (changes_pop {n = n} b) = or_left (is_changer n) (the_least.names n) (pop_named n b)
  complete (changes_pop_all {n = n} b) = or_left (is_changer n) (the_least.names n) (pop_all_named n b)
  complete (changes_drop {n = n} b) = or_left (is_changer n) (the_least.names n) (drop_named n b)
  complete (changes_rule {n = n} {r = r} e d) = or_right (is_changer n) (the_least.names n) (the_least.is_closed.closed n r e (complete d))
  complete (changes_pos_pred d) = complete d
  complete (changes_neg_pred d) = complete d
  complete (changes_seq_left {a = a} {b = b} d) = or_left (changes_by changers a) (changes_by changers b) (complete d)
  complete (changes_seq_right {a = a} {b = b} d) = or_right (changes_by changers a) (changes_by changers b) (complete d)
  complete (changes_left {a = a} {b = b} d) = or_left (changes_by changers a) (changes_by changers b) (complete d)
  complete (changes_right {a = a} {b = b} d) = or_right (changes_by changers a) (changes_by changers b) (complete d)
  complete (changes_opt d) = complete d
  complete (changes_rep d) = complete d
  complete (changes_rep_once d) = complete d
  complete (changes_rep_exact d) = complete d
  complete (changes_rep_min d) = complete d
  complete (changes_rep_max d) = complete d
  complete (changes_rep_min_max d) = complete d

  pub changes_decided : (e : Expression) → Decides (changes_by changers e) (ChangesStack g e)
  unfolding changers
  changes_decided e = (read the_least.names the_least.sound e, (λ d. complete d))

-- What an expression does to the stack, by what its names do.
use Rattle.std.proofs.Common.{◌≡◌, Bool, true, inl, inr, refl, sym, ◌∙◌, ap, subst, String, Global}
use Rattle.std.specs.Bool.{Decides}
use Rattle.std.proofs.lemmas.Bool.{or_cases, or_left, or_right}
use Rattle.base_language.specs.Language.Text.{Text}
use Rattle.base_language.specs.Language.Expression.{Expression, Str, Insens, Range, Ident, PeekSlice, PosPred, NegPred, Seq, Choice, Opt, Rep, RepOnce, RepExact, RepMin, RepMax, RepMinMax, Skip, Push, RestoreOnErr, Grammar, PushLiteral, NodeTag}
use Rattle.base_language.specs.Rewritings.Wrapping.{ChangesStack, changes_push, changes_push_literal, changes_pos_pred, changes_neg_pred, changes_seq_left, changes_seq_right, changes_left, changes_right, changes_opt, changes_rep, changes_rep_once, changes_rep_exact, changes_rep_min, changes_rep_max, changes_rep_min_max, changes_tag}
use Rattle.base_ast.specs.Ast.{text_of}
use Rattle.front_restorer.specs.Changing.{changes_by}
use Rattle.front_restorer.proofs.Said.{IsSaid}

module _ (g : Grammar) (p : Text → Bool) where
  -- where the names do what is said of them
  pub changing : ((s : String Global) → p (text_of s) ≡ true → ChangesStack g (Ident (text_of s))) → (e : Expression) → IsSaid e → changes_by p e ≡ true → ChangesStack g e
  changing f (Ident n) (s, k) h = subst (λ m. ChangesStack g (Ident m)) (sym k) (f s (sym (ap p k) ∙ h))
  changing f (PosPred e) s h = changes_pos_pred (changing f e s h)
  changing f (NegPred e) s h = changes_neg_pred (changing f e s h)
  changing f (Seq a b) s h = elim (or_cases (changes_by p a) (changes_by p b) h) [
    | inl k ↦ changes_seq_left (changing f a s.0 k)
    | inr k ↦ changes_seq_right (changing f b s.1 k)
  ]
  changing f (Choice a b) s h = elim (or_cases (changes_by p a) (changes_by p b) h) [
    | inl k ↦ changes_left (changing f a s.0 k)
    | inr k ↦ changes_right (changing f b s.1 k)
  ]
  changing f (Opt e) s h = changes_opt (changing f e s h)
  changing f (Rep e) s h = changes_rep (changing f e s h)
  changing f (RepOnce e) s h = changes_rep_once (changing f e s h)
  changing f (RepExact e i) s h = changes_rep_exact (changing f e s h)
  changing f (RepMin e i) s h = changes_rep_min (changing f e s h)
  changing f (RepMax e i) s h = changes_rep_max (changing f e s h)
  changing f (RepMinMax e i j) s h = changes_rep_min_max (changing f e s h)
  changing f (Push e) s h = changes_push
  changing f (NodeTag e t) s h = changes_tag (changing f e s h)
  changing f (RestoreOnErr e) s h = cc
  changing f (Str t) s h = cc
  changing f (Insens t) s h = cc
  changing f (Range t u) s h = cc
  changing f (PeekSlice i j) s h = cc
  changing f (Skip ts) s h = cc
  changing f (PushLiteral t) s h = changes_push_literal

  pub changed : ((s : String Global) → ChangesStack g (Ident (text_of s)) → p (text_of s) ≡ true) → (e : Expression) → IsSaid e → ChangesStack g e → changes_by p e ≡ true
  changed f (Ident n) (s, k) d = ap p k ∙ f s (subst (λ m. ChangesStack g (Ident m)) k d)
  changed f (PosPred e) s (changes_pos_pred d) = changed f e s d
  changed f (NegPred e) s (changes_neg_pred d) = changed f e s d
  changed f (Seq a b) s (changes_seq_left d) = or_left (changes_by p a) (changes_by p b) (changed f a s.0 d)
  changed f (Seq a b) s (changes_seq_right d) = or_right (changes_by p a) (changes_by p b) (changed f b s.1 d)
  changed f (Choice a b) s (changes_left d) = or_left (changes_by p a) (changes_by p b) (changed f a s.0 d)
  changed f (Choice a b) s (changes_right d) = or_right (changes_by p a) (changes_by p b) (changed f b s.1 d)
  changed f (Opt e) s (changes_opt d) = changed f e s d
  changed f (Rep e) s (changes_rep d) = changed f e s d
  changed f (RepOnce e) s (changes_rep_once d) = changed f e s d
  changed f (RepExact e i) s (changes_rep_exact d) = changed f e s d
  changed f (RepMin e i) s (changes_rep_min d) = changed f e s d
  changed f (RepMax e i) s (changes_rep_max d) = changed f e s d
  changed f (RepMinMax e i j) s (changes_rep_min_max d) = changed f e s d
  changed f (Push e) s d = refl
  changed f (NodeTag e t) s (changes_tag d) = changed f e s d
  changed f (RestoreOnErr e) s d = elim d [ ]
  changed f (Str t) s d = elim d [ ]
  changed f (Insens t) s d = elim d [ ]
  changed f (Range t u) s d = elim d [ ]
  changed f (PeekSlice i j) s d = elim d [ ]
  changed f (Skip ts) s d = elim d [ ]
  changed f (PushLiteral t) s d = refl

  pub decided : ((s : String Global) → Decides (p (text_of s)) (ChangesStack g (Ident (text_of s)))) → (e : Expression) → IsSaid e → Decides (changes_by p e) (ChangesStack g e)
  decided f e s = ((λ h. changing (λ n. (f n).0) e s h), (λ d. changed (λ n. (f n).1) e s d))
